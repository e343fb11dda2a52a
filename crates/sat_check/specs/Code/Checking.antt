-- The parts of a check.
use Rattle.theory.specs.Verdicts.{system_of}
use Rattle.std.specs.List.{list_any}
use Rattle.std.specs.Prelude.{◌≡◌, ◌+◌, ◌≤◌, false, List, length, None, Some, Result, Ok, Err, ℕ}
use Rattle.std.specs.Prelude.{max, Bool, ◌⊎◌, ◌↔◌, Option, true, ◌-◌, ◌^◌, min, if◌then◌else◌, [], ◌∷◌}
use Rattle.std.specs.Prelude.{IsTrue, IsSome, OnOk, IfErr}
use Rattle.writers.specs.Lines.{Sink, Writes}
use Rattle.cnf_base.specs.Literals.{Clause}
use Rattle.cnf_base.specs.Seen.{OfBothSeen, OneHasFailed}
use Rattle.cnf_base.specs.Stream.{Input, Suffix, Stream, Reader}
use Rattle.cnf_base.specs.declared.fault.Fault.TheVariants.{OutOfMemory}
use Rattle.cnf_base.specs.declared.fault.Fault.{Fault}
use Rattle.dimacs.specs.Formula.{Body, Formula, formula_of}
use Rattle.dimacs.specs.declared.header.Header.{Header}
use Rattle.proofs.specs.Reading.{Proof, PlacedStep, with_step}
use Rattle.proofs.specs.Steps.{Step}
use Rattle.proofs.specs.declared.step_end.StepEnd.{StepEnd}
use Rattle.theory.specs.Losses.{StepLoses, HasLost, LostBySteps}
use Rattle.theory.specs.Rules.{Rule, start, sum_of, Same, State, Answers, after, IsFinite}
use Rattle.theory.specs.Verdicts.{is_empty, Ending, Ends, Verdict, is_last, no_empty_clause}
use Rattle.theory.specs.declared.accepted.Accepted.{Accepted}
use Rattle.theory.specs.declared.refusal.Refusal.TheVariants.{OutOfMemory as RefusedMemory}
use Rattle.theory.specs.declared.refusal.Refusal.{Refusal}
use Rattle.steps.specs.ProofSession.{View, is_over}
use Rattle.sat_check.specs.Code.Writer.{LeavesWriter}
use Rattle.sat_check.specs.FormulaReach.{ReadsNoFurtherThanFault}
use Rattle.report.specs.Lines.{trace_line}
use Rattle.sat_check.specs.Reach.{deciding_step, refused_end, NeedsNoProof, TellsWhy}
use Rattle.sat_check.specs.Reach.{ReadsNoFurther, TellsFault}
use Rattle.sat_check.specs.Report.{Report, bare_steps, peak_by, proof_report, Reports, text_of}
use Rattle.sat_check.specs.Report.{verdict_report}
use Rattle.sat_check.specs.Report.{Outcome, is_cut_short, with_lines}
use Rattle.sat_check.specs.Code.Writer.{IsFlushedOrFailed}
use Rattle.sat_check.specs.declared.checked.Checked.{Checked}
use Rattle.report.specs.declared.status.Status.TheVariants.{NotVerified, OutOfMemory as NoMemory}
use Rattle.report.specs.declared.status.Status.TheVariants.{WriteFailed, ReadFailed}
use Rattle.report.specs.declared.status.Status.TheVariants.{Malformed}
use Rattle.report.specs.declared.status.Status.{Status}

-- how a proof ends that runs out of steps
abbrev pub end_report : Option Fault → Report
end_report fault = verdict_report 0 0 no_empty_clause fault

-- the greatest sum of sizes from a state on, under either rule
abbrev pub peak_of : State → List Step → List Accepted → ℕ
peak_of state steps words = peak_by sum_of after state steps words

-- where a reader stands, and what is still to come of an input
pub record Standing : Type 0 where
  pub stream : Stream
  pub to_come : Suffix → Proof

-- these clauses were input, and nothing else; as many more as a header allows still can be
pub record IsLoaded (rule : Rule) (s : View) (clauses : List Clause) : Type 0 where
  pub state : Same s.state (start rule clauses)
  pub verified : s.is_verified ≡ list_any is_empty clauses
  pub sound : s.is_ended ≡ false
  pub unstepped : s.has_stepped ≡ false
  pub none_lost : s.has_lost_literal ≡ false
  pub peak : s.peak ≡ sum_of (start rule clauses)
  pub room : 4294967295 ≤ s.room + length clauses

-- a session that takes steps: it isn't over, and of what it holds the peak is known
pub record IsOpen (s : View) : Type 0 where
  pub sound : is_over s ≡ false
  pub finite : IsFinite s.state
  pub least : sum_of s.state ≤ s.peak

-- the clauses of a formula were input, or its fault was met; want of memory says nothing
abbrev pub LoadsBody : Rule → View → Result Unit Fault → Body → Type 0
LoadsBody rule s (Ok u) b = (b.fault ≡ None) × IsLoaded rule s b.clauses
LoadsBody rule s (Err OutOfMemory) b = Unit {0}
LoadsBody rule s (Err f) b = b.fault ≡ Some f

abbrev pub Loads : Rule → View → Result Header Fault → Formula → Type 0
Loads rule s (Ok h) f = (f.header ≡ Some h) × (f.fault ≡ None) × IsLoaded rule s f.clauses
Loads rule s (Err OutOfMemory) f = Unit {0}
Loads rule s (Err e) f = f.fault ≡ Some e

-- the rest of a report, from a state that so many accepted steps left, with the greatest sum of
-- sizes up to it
pub record Rest (trace : Bool) (state : State) (n : ℕ) (peak : ℕ) (proof : Proof) (r : Report)
    : Type 0 where
  pub words : List Accepted
  pub ending : Ending
  pub verdict : Ends state (bare_steps proof) words ending
  pub report : r ≡ proof_report trace n
      (max peak (peak_of state (bare_steps proof) words)) words ending proof.fault

-- What is left of the steps of a proof from a session on: all that follows the step that decides,
-- and all that follows the fault, whatever the status; and where that step ends, if it was refused,
-- and whether a root-level literal was lost before, or what is wrong with the proof.
pub record LeavesRest (s : View) (p : Proof) (rest : Suffix) (checked : Checked) : Type 0 where
  pub past : (words : List Accepted) (ending : Ending) (last : PlacedStep) →
      Ends s.state (bare_steps p) words ending
      → deciding_step p.steps words ending ≡ Some last → rest.offset ≤ last.offset
  pub past_fault : (offset : ℕ) → p.fault_end ≡ Some offset → rest.offset ≤ offset
  pub refused : (words : List Accepted) (ending : Ending) → checked.status ≡ NotVerified →
      Ends s.state (bare_steps p) words ending
      → checked.refused ≡ refused_end p.steps words ending
  pub only : (checked.status ≡ NotVerified → ⊥) → checked.refused ≡ None
  pub lost : (words : List Accepted) (ending : Ending) → checked.status ≡ NotVerified →
      Ends s.state (bare_steps p) words ending → IsTrue checked.literal_lost ↔
      (IsSome checked.refused
      × (IsTrue s.has_lost_literal ⊎ HasLost s.state (bare_steps p) words))
  pub none_lost : (checked.status ≡ NotVerified → ⊥) → checked.literal_lost ≡ false
  pub malformed : TellsFault None p.fault checked

-- What is left of a proof: all of it where the formula decides alone, and else all of it, or all
-- that follows the step that decides, and the fault; and why the check ended so.
pub record LeavesProof (rule : Rule) (fault : Option Fault) (clauses : List Clause) (p : Proof)
    (old new : Reader) (rest : Suffix) (checked : Checked) : Type 0 where
  pub unread : NeedsNoProof fault clauses → new ≡ old
  pub past : (words : List Accepted) (ending : Ending) (last : PlacedStep) → fault ≡ None
      → Verdict rule clauses (bare_steps p) words ending →
      deciding_step p.steps words ending ≡ Some last → (new ≡ old) ⊎ (rest.offset ≤ last.offset)
  pub past_fault : (offset : ℕ) → p.fault_end ≡ Some offset → (new ≡ old) ⊎ (rest.offset ≤ offset)
  pub told : TellsWhy (system_of rule) (LostBySteps rule) fault clauses p checked

-- what was written, by all that was seen of the formula and of the proof, how far these were read,
-- and why the check ended so
abbrev pub AllReports : Rule → Bool → (Input → Proof) → Reader → Reader → Reader → Reader →
    Checked → Option (List ℕ) → Option (List ℕ) → Type 0
AllReports rule trace steps formula formula_new proof proof_new checked old new =
    OfBothSeen formula formula_new proof proof_new
    (λ i j. Reports (system_of rule) trace i (steps j) old new checked.status
    × ReadsNoFurther (system_of rule) (formula_of i) (steps j) proof proof_new
    × TellsWhy (system_of rule) (LostBySteps rule) (formula_of i).fault (formula_of i).clauses (steps j) checked
    × ReadsNoFurtherThanFault i formula formula_new)

-- A run from readers to the writer of the lines: what was written, and which of them failed.
pub record RunsInto (rule : Rule) (trace : Bool) (steps : Input → Proof)
    (formula formula_new proof proof_new : Reader) (was now : Sink) (checked : Checked)
    : Type 0 where
  pub report : AllReports rule trace steps formula formula_new proof proof_new checked
      was.held now.held
  pub read_failed : checked.status ≡ ReadFailed → OneHasFailed formula_new proof_new
  pub write_failed : checked.status ≡ WriteFailed → now.has_failed ≡ true
  pub writer : LeavesWriter checked.status was now

-- a step that is refused
abbrev pub IsRefused : State → Step → Type 0
IsRefused state step = (r : Refusal) × Answers state step (Err r)

-- a step that decides: it is refused, or it is the accepted empty clause
abbrev pub Decides : State → Step → Type 0
Decides state step =
    IsRefused state step ⊎
    ((word : Accepted) × Answers state step (Ok word) × (is_last word ≡ true))

-- numbers are counted up to the greatest of 64 bits
abbrev pub counted : ℕ → ℕ
counted n = min n (2 ^ 64 - 1)

-- the line of an accepted step, if a trace is asked for
abbrev pub traced : Bool → ℕ → Accepted → List (List ℕ)
traced trace n word = if trace then trace_line n word ∷ [] else []

-- a step was accepted, it isn't the last, and its line was written
pub record GoesOn (trace : Bool) (number : ℕ) (old new : View) (step : Step) (was now : Sink)
    : Type 0 where
  pub word : Accepted
  pub answers : Answers old.state step (Ok word)
  pub not_last : is_last word ≡ false
  pub state : Same new.state (after old.state step word)
  pub lost : IsTrue new.has_lost_literal ↔
      (IsTrue old.has_lost_literal ⊎ StepLoses old.state step word)
  pub peak : new.peak ≡ max old.peak (sum_of new.state)
  pub sound : is_over new ≡ false
  pub wrote : Writes was now (text_of (traced trace number word))
  pub whole : now.is_broken ≡ false
  pub no_failure : now.has_failed ≡ was.has_failed

-- with this step the check ended: whatever follows it, what was written is the rest of the report
abbrev pub Stops : Bool → ℕ → View → Step → Sink → Sink → Status → Type 0
Stops trace number old step was now status =
    (n offset : ℕ) (end : StepEnd) (p : Proof) → number ≡ counted (n + 1) →
    sum_of old.state ≤ old.peak → IsFinite old.state
    → (r : Report) × Rest trace old.state n old.peak (with_step step end offset p) r
    × Outcome status was.held now.held r

-- how a run may stop before its end
abbrev pub IsBreak : Status → Sink → Type 0
IsBreak NoMemory now = Unit {0}
IsBreak WriteFailed now = now.has_failed ≡ true
IsBreak _ now = ⊥

-- the line of an accepted step was written, if a trace is asked for; or the report broke off there
pub record Traces (trace : Bool) (number : ℕ) (word : Accepted) (was now : Sink)
    (result : Result Unit Status) : Type 0 where
  pub wrote : OnOk result (Writes was now (text_of (traced trace number word)))
  pub whole : OnOk result (was.is_broken ≡ false → now.is_broken ≡ false)
  pub stopped : IfErr result (λ status. (r : Report) →
      Outcome status was.held now.held (with_lines (traced trace number word) r))
  pub no_failure : OnOk result (now.has_failed ≡ was.has_failed)
  pub broke : IfErr result (λ status. IsBreak status now)
  pub cut_short : IfErr result (λ status. is_cut_short status ≡ true)
  pub gave_up : IfErr result (λ status.
      status ≡ NoMemory → IsFlushedOrFailed now.is_flushed now.has_failed)
  pub same_writer : now.borrows ≡ was.borrows

-- neither a malformed input or a failed read, nor a failed write that the writer doesn't tell of
abbrev pub IsTold : Status → Sink → Type 0
IsTold Malformed now = ⊥
IsTold ReadFailed now = ⊥
IsTold WriteFailed now = now.has_failed ≡ true
IsTold _ now = Unit {0}

abbrev pub is_memory : Refusal → Bool
is_memory RefusedMemory = true
is_memory _ = false
