-- What a check of a model writes, and how it ends (our own profile: only listed literals are true,
-- and the first clause that has none is told).
use Rattle.std.specs.Prelude.{◌≡◌, ℕ, ◌+◌, ◌-◌, ◌≤◌, if◌then◌else◌, slice_get, IsTrue, Bool, List}
use Rattle.std.specs.Prelude.{[], ◌∷◌, length, Option, None, Some, Result, Ok, Err, codes}
use Rattle.std.specs.List.{list_any}
use Rattle.cnf_base.specs.Literals.{Literal, Clause, has}
use Rattle.cnf_base.specs.Stream.{Input, Reader, bytes_read}
use Rattle.cnf_base.specs.declared.fault.Fault.{Fault}
use Rattle.dimacs.specs.Claim.{claim_of, IsConsistent}
use Rattle.dimacs.specs.Formula.{Formula, formula_of, ends_of}
use Rattle.sat_check.specs.FormulaReach.{ReadsNoFurtherThanFault}
use Rattle.report.specs.Lines.{a_model, unmet_line, clauses_line, fault_line, fault_status}
use Rattle.sat_check.specs.Report.{Report, Outcome, IsUnlessBroken, HasWritten, concluded}
use Rattle.sat_check.specs.Reach.{first_fault}
use Rattle.theory.specs.Models.{HasModel}
use Rattle.sat_check.specs.declared.checked.Checked.{Checked}
use Rattle.sat_check.specs.declared.input_fault.InputFault.{InputFault}
use Rattle.sat_check.specs.declared.input_fault.InputFault.TheVariants.{Second}
use Rattle.report.specs.declared.status.Status.{Status}
use Rattle.report.specs.declared.status.Status.TheVariants.{Verified, NotVerified, Malformed}
use Rattle.report.specs.declared.status.Status.TheVariants.{OutOfMemory}

-- some literal of the clause is listed
abbrev pub meets : List Literal → Clause → Bool
meets listed c = list_any (has listed) c

-- the number of the first clause that has no listed literal, where the first of these has this
-- number
abbrev pub first_unmet : ℕ → List Literal → List Clause → Option ℕ
first_unmet k listed [] = None
first_unmet k listed (c ∷ cs) = if meets listed c then first_unmet (k + 1) listed cs else Some k

-- all of so many clauses are met, and the formula ends so
abbrev pub met_report : ℕ → Option Fault → Report
met_report n None = concluded a_model (clauses_line n) Verified
met_report n (Some f) = concluded a_model (fault_line (codes "formula") f) (fault_status f)

-- a clause that isn't met comes before the formula's fault
abbrev pub clauses_report : Option ℕ → Formula → Report
clauses_report (Some k) f = concluded a_model (unmet_line k) NotVerified
clauses_report None f = met_report (length f.clauses) f.fault

-- the report of a claim; its fault comes before the formula is looked at
abbrev pub claim_report : Result (List Literal) Fault → Formula → Report
claim_report (Ok listed) f = clauses_report (first_unmet 1 listed f.clauses) f
claim_report (Err e) f = concluded a_model (fault_line (codes "output") e) (fault_status e)

-- the report of a formula and a solver's output
abbrev pub model_report : (formula output : Input) → Report
model_report formula output = claim_report (claim_of output) (formula_of formula)

-- the listed literals hold no complements, and each clause has one of them
pub record Satisfies (claim : Result (List Literal) Fault) (clauses : List Clause) : Type 0 where
  pub listed : List Literal
  pub claimed : claim ≡ Ok listed
  pub consistent : IsConsistent listed
  pub met : (k : ℕ) (c : Clause) → slice_get clauses k ≡ Some c → IsTrue (meets listed c)

-- No more of a formula was read than a claim takes, also where memory or the writer failed: where
-- the output has a fault the formula's reader is as it was, and where some clause isn't met, the
-- first such clause ends with a `0`, and at most 65536 bytes past that were read. Nor was more read
-- than a fault of the formula takes.
pub record ReadsFormulaNoFurther (claim : Result (List Literal) Fault) (formula : Input)
    (old new : Reader) : Type 0 where
  pub unread : (f : Fault) → claim ≡ Err f → new ≡ old
  pub past : (listed : List Literal) (k : ℕ) → claim ≡ Ok listed →
      first_unmet 1 listed (formula_of formula).clauses ≡ Some k
      → (offset : ℕ) × (slice_get (ends_of formula) (k - 1) ≡ Some offset)
      × (bytes_read old new ≤ offset + 65536)
  pub fault : ReadsNoFurtherThanFault formula old new

-- what is wrong with an input, by the claim of an output and the formula: the output's fault comes
-- first
abbrev pub first_model_fault : Result (List Literal) Fault → Formula → Option InputFault
first_model_fault (Err f) formula = Some (Second f)
first_model_fault (Ok listed) formula = first_fault formula.fault None

-- A check tells which clause has no listed literal first, if one has none; unless memory ran out.
abbrev pub TellsUnmet : (listed : List Literal) → List Clause → Checked → Type 0
TellsUnmet listed clauses checked =
    (checked.status ≡ OutOfMemory → ⊥) → checked.unmet ≡ first_unmet 1 listed clauses

-- A check of a model tells what is wrong with an input, exactly where the status is `Malformed`;
-- and of a claim without a fault, which clause isn't satisfied.
pub record TellsModelFault (claim : Result (List Literal) Fault) (formula : Formula)
    (checked : Checked) : Type 0 where
  pub malformed : checked.status ≡ Malformed → checked.fault ≡ first_model_fault claim formula
  pub only : (checked.status ≡ Malformed → ⊥) → checked.fault ≡ None
  pub unmet : (listed : List Literal) → claim ≡ Ok listed →
      TellsUnmet listed formula.clauses checked
  pub unclaimed : (f : Fault) → claim ≡ Err f → checked.unmet ≡ None

-- What follows from the report of a model. Status 0 is answered exactly where the formula has no
-- fault and the claim satisfies its clauses, unless memory or the writer failed. Where it is, and
-- where the line `s MODEL VERIFIED` was written, under whatever status, the formula has a model.
pub record ModelConsequences (formula output : Input) (old new : Option (List ℕ)) (status : Status)
    : Type 0 where
  pub whole : status ≡ Verified → (formula_of formula).fault ≡ None
  pub satisfied : status ≡ Verified → Satisfies (claim_of output) (formula_of formula).clauses
  pub complete : (formula_of formula).fault ≡ None →
      Satisfies (claim_of output) (formula_of formula).clauses → IsUnlessBroken Verified status
  pub has_model : status ≡ Verified → HasModel (slice_get (formula_of formula).clauses)
  pub written : HasWritten (codes "s MODEL VERIFIED") old new →
      HasModel (slice_get (formula_of formula).clauses)

-- A run checked the model that this output claims of this formula: what it wrote and its status are
-- those of the report.
pub record ChecksModel (formula output : Input) (old new : Option (List ℕ)) (status : Status)
    : Type 0 where
  pub outcome : Outcome status old new (model_report formula output)
  pub consequences : ModelConsequences formula output old new status
