-- What is told of a run on standard error (our own profile).
use Rattle.std.specs.Prelude.{ℕ, Option, None, Some}
use Rattle.command_line.specs.declared.args.Args.{Args}
use Rattle.command_line.specs.declared.tool.Tool.{Tool}
use Rattle.command_line.specs.declared.tool.Tool.TheVariants.{Model}
use Rattle.proofs.specs.declared.step_end.StepEnd.{StepEnd}
use Rattle.sat_check.specs.declared.checked.Checked.{Checked}
use Rattle.sat_check.specs.declared.input_fault.InputFault.{InputFault}
use Rattle.sat_check.specs.declared.input_fault.InputFault.TheVariants.{Formula, Second}
use Rattle.report.specs.declared.status.Status.{Status}
use Rattle.report.specs.declared.status.Status.TheVariants as status
use Rattle.hints.specs.Hints.{hint_of}
use Rattle.hints.specs.declared.evidence.Evidence.{Evidence}
use Rattle.hints.specs.declared.finding.Finding.TheVariants as finding
use Rattle.filter_io.specs.declared.told.Told.{Told}
use Rattle.filter_io.specs.declared.told.Told.TheVariants as told

-- a proof without a refused step has no empty clause; a model leaves a clause without a true
-- literal, or isn't claimed
abbrev pub unproved : Tool → Args → (unmet : Option ℕ) → (second : Evidence) → Told
unproved Model args (Some k) second = told.NotSatisfied k
unproved Model args None second = told.NoModel
unproved tool args unmet second =
    told.NoEmptyClause (hint_of tool args finding.NoEmptyClause second)

abbrev pub refused_at : Tool → Args → Checked → (second : Evidence) → Option StepEnd → Told
refused_at tool args checked second (Some end) =
    told.Refused end (hint_of tool args (finding.Refused checked.literal_lost) second)
refused_at tool args checked second None = unproved tool args checked.unmet second

abbrev pub refused : Tool → Args → Checked → (second : Evidence) → Told
refused tool args checked second = refused_at tool args checked second checked.refused

-- the fault of an input, with a hint by what that input shows
abbrev pub malformed : Tool → Args → Option InputFault → (formula second : Evidence) → Told
malformed tool args None formula second = told.Nothing
malformed tool args (Some (Formula f)) formula second =
    told.Malformed (Formula f) (hint_of tool args (finding.Formula f) formula)
malformed tool args (Some (Second f)) formula second =
    told.Malformed (Second f) (hint_of tool args (finding.Second f) second)

abbrev pub told_by : Tool → Args → Checked → (formula second : Evidence) → Status → Told
told_by tool args checked formula second status.Verified = told.Nothing
told_by tool args checked formula second status.NotVerified = refused tool args checked second
told_by tool args checked formula second status.Malformed =
    malformed tool args checked.fault formula second
told_by tool args checked formula second status.ReadFailed = told.ReadFailed
told_by tool args checked formula second status.OutOfMemory = told.OutOfMemory
told_by tool args checked formula second status.WriteFailed = told.WriteFailed
told_by tool args checked formula second status.Usage = told.Nothing

-- What is told where a check ended so, by what the formula and the second input show.
abbrev pub told_of : Tool → Args → Checked → (formula second : Evidence) → Told
told_of tool args checked formula second =
    told_by tool args checked formula second checked.status
