-- What `clap` makes of the commands when it builds them.
use Rattle.clap.specs.Faults.{built_fault, fault_of, is_simple_and_free, level_fault}
use Rattle.clap.specs.Simple.{Shape, filled, help_rule, matches_of, version_rule, with_index}
use Rattle.clap.specs.Walk.{Held, Rule, Text, nothing_held, rows_after}
use Rattle.command_line.specs.Code.Commands.{command_of, flag_rule, formula_rule, second_rule}
use Rattle.command_line.specs.declared.tool.Tool.{Tool, TheVariants.{Drat, Lrat, Model}}
use Rattle.std.{proofs.Common.{List, [], codes, false, rules, true, ◌∷◌, ◌≡◌}, specs.Prelude.drop}

abbrev pub flag_full : Text → Rule
flag_full name = filled (flag_rule name)

abbrev pub formula_full : Rule
formula_full = with_index 1 (filled formula_rule)

abbrev pub second_full : Rule
second_full = with_index 2 (filled second_rule)

abbrev pub help_full : Rule
help_full = filled help_rule

abbrev pub version_full : Rule
version_full = filled version_rule

-- the files, and the flags that ask for a text
abbrev pub files_and_texts : List Rule
files_and_texts = formula_full ∷ second_full ∷ help_full ∷ version_full ∷ []

abbrev pub rules_of : Tool → List Rule
rules_of Drat = flag_full (codes "binary") ∷ flag_full (codes "trace") ∷ flag_full (codes "strict") ∷ flag_full (codes "pr") ∷ flag_full (codes "keep-units") ∷ files_and_texts
rules_of Lrat = flag_full (codes "trace") ∷ files_and_texts
rules_of Model = files_and_texts

abbrev pub name_of : Tool → Text
name_of Drat = codes "drat-forward"
name_of Lrat = codes "lrat-check"
name_of Model = codes "model-check"

abbrev pub shape : Text → List Rule → Shape
shape name rules = record {
  name = name;
  aliases = [];
  rules = rules;
  is_plain = true;
  is_leaf = true;
  no_binary_name = false;
  disable_help_flag = false;
  disable_help_subcommand = true;
  disable_version_flag = false;
  propagate_version = false;
  has_version = true;
  has_long_version = false;
  args_override_self = false;
  arg_required_else_help = false;
  subcommand_required = false;
  subcommand_negates_reqs = false;
  is_built = true;
}

abbrev pub top_of : Tool → Shape
top_of tool = shape (name_of tool) (rules_of tool)

pub is_plain : (tool : Tool) → is_simple_and_free (command_of tool) ≡ true
is_plain tool = search rules

leaf_fault : (s : Shape) (h : Held) (words : List Text) → built_fault (record { top = s; subs = [] }) h words ≡ level_fault s [] h words false []
leaf_fault s h words = search rules

pub fault_is : (tool : Tool) (words : List Text) → fault_of (command_of tool) words ≡ level_fault (top_of tool) [] nothing_held (drop 1 words) false []
fault_is tool words = search (rules, leaf_fault)

pub matches_are : (tool : Tool) (words : List Text) → matches_of (command_of tool) words ≡ rows_after (rules_of tool) [] (drop 1 words)
matches_are tool words = search rules
