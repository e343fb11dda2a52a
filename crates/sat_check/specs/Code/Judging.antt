-- The parts of a check of a model.
use Rattle.std.specs.Prelude.{◌≡◌, List, length, Option, None, Some, Result, Ok, Err, ℕ, ◌-◌, ◌≤◌}
use Rattle.std.specs.Prelude.{slice_get, ◌+◌}
use Rattle.cnf_base.specs.Literals.{Literal, Clause}
use Rattle.cnf_base.specs.Stream.{Input, Suffix, Reader, bytes_read}
use Rattle.cnf_base.specs.declared.fault.Fault.TheVariants.{OutOfMemory}
use Rattle.cnf_base.specs.declared.fault.Fault.{Fault}
use Rattle.dimacs.specs.Formula.{formula_of, ends_of}
use Rattle.report.specs.Lines.{a_model, unmet_line, clauses_line}
use Rattle.sat_check.specs.ModelReport.{first_unmet}
use Rattle.sat_check.specs.Report.{Report, concluded}
use Rattle.sat_check.specs.declared.judgement.Judgement.TheVariants.{Met, Unmet}
use Rattle.sat_check.specs.declared.judgement.Judgement.{Judgement}
use Rattle.report.specs.declared.status.Status.TheVariants.{Verified, NotVerified}

-- clauses and the fault after them are judged so by the listed literals; want of memory says
-- nothing
abbrev pub Judges : List Literal → Result Judgement Fault → List Clause → Option Fault → Type 0
Judges listed (Ok (Met n)) clauses fault =
    (first_unmet 1 listed clauses ≡ None) × (n ≡ length clauses) × (fault ≡ None)
Judges listed (Ok (Unmet k)) clauses fault = first_unmet 1 listed clauses ≡ Some k
Judges listed (Err OutOfMemory) clauses fault = Unit {0}
Judges listed (Err f) clauses fault = (first_unmet 1 listed clauses ≡ None) × (fault ≡ Some f)

-- the number of the clause that isn't met
abbrev pub unmet_in : Judgement → Option ℕ
unmet_in (Met n) = None
unmet_in (Unmet k) = Some k

-- The `0` of the first clause that isn't met wasn't passed: that clause ends where what is still to
-- come begins, or later. `ends` is where each clause ends.
abbrev pub LeavesUnmet : List Literal → List Clause → List ℕ → Suffix → Type 0
LeavesUnmet listed clauses ends rest =
    (k offset : ℕ) → first_unmet 1 listed clauses ≡ Some k →
    slice_get ends (k - 1) ≡ Some offset → rest.offset ≤ offset

-- at most 65536 bytes past it were read
abbrev pub ReadsToUnmet : List Literal → Input → Reader → Reader → Type 0
ReadsToUnmet listed formula old new =
    (k offset : ℕ) → first_unmet 1 listed (formula_of formula).clauses ≡ Some k →
    slice_get (ends_of formula) (k - 1) ≡ Some offset
    → bytes_read old new ≤ offset + 65536

-- the report of a formula that was judged so
abbrev pub judged_report : Judgement → Report
judged_report (Met n) = concluded a_model (clauses_line n) Verified
judged_report (Unmet k) = concluded a_model (unmet_line k) NotVerified
