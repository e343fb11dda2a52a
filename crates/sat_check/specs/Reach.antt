-- How far a proof is read, and why a check ended so: where the step ends that is refused, whether a
-- root-level literal was lost before it, and what is wrong with an input.
use Rattle.std.specs.List.{list_any}
use Rattle.std.specs.Prelude.{List, [], ◌∷◌, length, slice_get, Option, None, Some, ◌≡◌, ◌⊎◌, true, false}
use Rattle.std.specs.Prelude.{◌↔◌, ℕ, ◌+◌, ◌≤◌, IsTrue, IsSome, option_map}
use Rattle.std.specs.Option.{option_or}
use Rattle.cnf_base.specs.Literals.{Clause}
use Rattle.cnf_base.specs.Stream.{Reader, bytes_read}
use Rattle.cnf_base.specs.declared.fault.Fault.{Fault}
use Rattle.dimacs.specs.Formula.{Formula}
use Rattle.proofs.specs.Reading.{PlacedStep, Proof}
use Rattle.proofs.specs.Steps.{Step}
use Rattle.proofs.specs.declared.step_end.StepEnd.{StepEnd}
use Rattle.theory.specs.Systems.{ProofSystem}
use Rattle.theory.specs.Verdicts.{Ending, verified, refused, no_empty_clause, is_empty, VerdictBy}
use Rattle.theory.specs.declared.accepted.Accepted.{Accepted}
use Rattle.sat_check.specs.Report.{bare_steps}
use Rattle.sat_check.specs.declared.checked.Checked.{Checked}
use Rattle.sat_check.specs.declared.input_fault.InputFault.{InputFault}
use Rattle.sat_check.specs.declared.input_fault.InputFault.TheVariants as of
use Rattle.report.specs.declared.status.Status.TheVariants.{NotVerified, Malformed}

-- the step that decides: the accepted empty clause, or the step that is refused; none where a
-- clause of the formula decides, or no step does
abbrev pub deciding_step : List PlacedStep → List Accepted → Ending → Option PlacedStep
deciding_step steps [] verified = None
deciding_step steps (word ∷ words) verified = slice_get steps (length words)
deciding_step steps words (refused r) = slice_get steps (length words)
deciding_step steps words no_empty_clause = None

-- where the step ends that is refused; none where no step is
abbrev pub refused_end : List PlacedStep → List Accepted → Ending → Option StepEnd
refused_end steps words (refused r) =
    option_map (λ placed. placed.end) (slice_get steps (length words))
refused_end steps words ending = None

-- the formula decides alone: it has a fault, or an empty clause
abbrev pub NeedsNoProof : Option Fault → List Clause → Type 0
NeedsNoProof fault clauses = (¬ (fault ≡ None)) ⊎ (list_any is_empty clauses ≡ true)

-- No more of a proof was read than it takes, also where memory or the writer failed: where the
-- formula decides alone the reader is as it was, and where a step decides, at most 65536 bytes past
-- its end were read; and no more past the first word or byte of the proof that is at fault.
pub record ReadsNoFurther {State : Type 0} (system : ProofSystem State) (f : Formula) (p : Proof)
    (old new : Reader) : Type 0 where
  pub unread : NeedsNoProof f.fault f.clauses → new ≡ old
  pub past : (words : List Accepted) (ending : Ending) (last : PlacedStep) → f.fault ≡ None
      → VerdictBy system f.clauses (bare_steps p) words ending →
      deciding_step p.steps words ending ≡ Some last
      → bytes_read old new ≤ last.offset + 65536
  pub fault : (offset : ℕ) → p.fault_end ≡ Some offset → bytes_read old new ≤ offset + 65536

-- what is wrong with an input, by the faults of the formula and of the second one: the formula's
-- comes first
abbrev pub first_fault : (formula second : Option Fault) → Option InputFault
first_fault formula second =
    option_or (option_map of.Formula formula) (option_map of.Second second)

-- A check tells what is wrong with an input: exactly where the status is `Malformed`.
pub record TellsFault (formula second : Option Fault) (checked : Checked) : Type 0 where
  pub malformed : checked.status ≡ Malformed → checked.fault ≡ first_fault formula second
  pub only : (checked.status ≡ Malformed → ⊥) → checked.fault ≡ None

-- A check tells that a root-level literal was lost exactly where a step was refused, and one of
-- those that were accepted before lost one.
pub record TellsLoss {State : Type 0} (system : ProofSystem State)
    (HasLost : List Clause → List Step → List Accepted → Type 0) (fault : Option Fault)
    (clauses : List Clause) (p : Proof) (checked : Checked) : Type 0 where
  pub lost : (words : List Accepted) (ending : Ending) → fault ≡ None →
      checked.status ≡ NotVerified
      → VerdictBy system clauses (bare_steps p) words ending → IsTrue checked.literal_lost ↔
      (IsSome checked.refused × HasLost clauses (bare_steps p) words)
  pub only : (checked.status ≡ NotVerified → ⊥) → checked.literal_lost ≡ false

-- A check tells why it ended so: where the refused step ends, exactly where the status is
-- `NotVerified` since a step of the proof was refused; whether a root-level literal was lost before;
-- and what is wrong with an input.
pub record TellsWhy {State : Type 0} (system : ProofSystem State)
    (HasLost : List Clause → List Step → List Accepted → Type 0) (fault : Option Fault)
    (clauses : List Clause) (p : Proof) (checked : Checked) : Type 0 where
  pub unread : NeedsNoProof fault clauses → checked.refused ≡ None
  pub refused : (words : List Accepted) (ending : Ending) → fault ≡ None →
      checked.status ≡ NotVerified
      → VerdictBy system clauses (bare_steps p) words ending →
      checked.refused ≡ refused_end p.steps words ending
  pub only : (checked.status ≡ NotVerified → ⊥) → checked.refused ≡ None
  pub loss : TellsLoss system HasLost fault clauses p checked
  pub malformed : TellsFault fault p.fault checked
