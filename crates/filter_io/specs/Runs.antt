-- What a program does with its words, and with the inputs that these name.
use Rattle.std.specs.Prelude.{◌≡◌, ◌⊎◌, ℕ, Bool, true, List, Option, None, Some, String, option_map}
use Rattle.std.specs.Prelude.{string_bytes}
use Rattle.cnf_base.specs.Stream.{Reader}
use Rattle.command_line.specs.Asked.{IsAsked}
use Rattle.command_line.specs.Words.{asked_by}
use Rattle.command_line.specs.declared.args.Args.{Args}
use Rattle.command_line.specs.declared.tool.Tool.{Tool}
use Rattle.command_line.specs.declared.tool.Tool.TheVariants.{Drat, Lrat, Model}
use Rattle.sat_check.specs.Options.{drat_options}
use Rattle.sat_check.specs.Runs.{RunsDrat, RunsLrat, RunsModel}
use Rattle.sat_check.specs.Theorem.{ShowsUnsatisfiable, ShowsSatisfied}
use Rattle.sat_check.specs.declared.checked.Checked.{Checked}
use Rattle.report.specs.declared.status.Status.{Status}
use Rattle.filter_io.specs.Origins.{unread}

-- What an input is read by, by its name: the file of that name, or one that the system may refuse
-- to open; where there is no name, standard input. `holds` has the bytes of each file, where they
-- are known.
abbrev pub Opens : (holds : List ℕ → Option (List ℕ)) (may_refuse : List ℕ → Bool)
    (standard : Option (List ℕ)) → Option (List ℕ) → Reader → Type 0
Opens holds may_refuse standard None r = r ≡ unread standard
Opens holds may_refuse standard (Some name) r =
    (r ≡ unread (holds name)) ⊎ ((r ≡ unread None) × (may_refuse name ≡ true))

-- what the tool checks of a formula and of the second input, by the options of the arguments
abbrev pub Checks : Tool → Args → (formula formula_new second second_new : Reader)
    (old new : Option (List ℕ)) (had_failed has_failed is_flushed : Bool) → Checked → Type 0
Checks Drat args = RunsDrat (drat_options args 0)
Checks Lrat args = RunsLrat args.trace
Checks Model args = RunsModel

-- what a positive answer of the tool says of the bytes that its inputs have, where these are known
abbrev pub Answers : Tool → (formula second : Option (List ℕ)) → Status →
    (old new : Option (List ℕ)) → Type 0
Answers Drat formula second = ShowsUnsatisfiable formula
Answers Lrat formula second = ShowsUnsatisfiable formula
Answers Model formula second = ShowsSatisfied formula second

-- The words ask for these arguments, and the inputs of the names that these have were checked, the
-- formula and the second one, each read up to some point.
pub record RunsTool {Z : Type 0} (tool : Tool) (words : List (String Z)) (args : Args)
    (opens : Option (List ℕ) → Reader → Type 0) (formula second : Reader)
    (old new : Option (List ℕ)) (had_failed has_failed is_flushed : Bool) (checked : Checked)
    : Type 0 where
  pub asked : IsAsked tool words args
  pub formula_unread : Reader
  pub second_unread : Reader
  pub opens_formula : opens (asked_by (Some (string_bytes args.formula))) formula_unread
  pub opens_second : opens (asked_by (option_map string_bytes args.second)) second_unread
  pub checks : Checks tool args formula_unread formula second_unread second old new had_failed
      has_failed is_flushed checked
  pub answers : Answers tool formula_unread.left second_unread.left checked.status old new
