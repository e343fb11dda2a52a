-- The commands that `clap` is given, as its contracts speak of them.
use Rattle.clap.specs.Simple.{on_top}
use Rattle.clap.specs.Words.{Rule, Text, new_rule, App, new_app, with_rule}
use Rattle.std.specs.Prelude.{Some, true, codes}
use Rattle.clap.specs.declared.builder.ArgAction.TheVariants.{SetTrue, Set}
use Rattle.command_line.specs.declared.tool.Tool.TheVariants.{Drat, Lrat, Model}
use Rattle.command_line.specs.declared.tool.Tool.{Tool}

abbrev pub flag_rule : Text → Rule
flag_rule name = record (new_rule name) { long = Some name; action = Some SetTrue }

abbrev pub formula_rule : Rule
formula_rule = record (new_rule (codes "formula")) {
  value_names = 1;
  action = Some Set;
  required = true;
}

abbrev pub second_rule : Rule
second_rule = record (new_rule (codes "second")) { value_names = 1; action = Some Set }

-- a command without arguments, which shows its version where that is asked for
abbrev pub new_command : Text → App
new_command name = on_top (λ s. record s { has_version = true }) (new_app name)

abbrev pub with_files : App → App
with_files a = with_rule (with_rule a formula_rule) second_rule

abbrev pub command_of : Tool → App
command_of Drat = with_files
    (with_rule
    (with_rule
    (with_rule
    (with_rule
    (with_rule (new_command (codes "drat-forward")) (flag_rule (codes "binary")))
    (flag_rule (codes "trace"))) (flag_rule
    (codes "strict"))) (flag_rule (codes "pr"))) (flag_rule (codes "keep-units")))
command_of Lrat =
    with_files (with_rule (new_command (codes "lrat-check")) (flag_rule (codes "trace")))
command_of Model = with_files (new_command (codes "model-check"))
