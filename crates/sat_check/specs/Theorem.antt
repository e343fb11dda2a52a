-- The theorem: what a positive answer says of the inputs' bytes, by the grammars of their formats.
-- docs/THEOREM.md quotes it, and all that it needs.
use Rattle.std.specs.List.{list_all}
use Rattle.std.specs.Prelude.{◌≡◌, ◌⊎◌, ℕ, Bool, false, List, Option, Some, codes, IsTrue, IsFalse}
use Rattle.cnf_base.specs.Grammar.{word_lines}
use Rattle.cnf_base.specs.Literals.{Literal, Clause}
use Rattle.cnf_base.specs.Printing.{is_literal}
use Rattle.dimacs.specs.Grammar.{FormulaText, ModelText}
use Rattle.dimacs.specs.Printing.{IsFormula}
use Rattle.dimacs.specs.declared.header.Header.{Header}
use Rattle.theory.specs.Models.{Assignment, holds, satisfies}
use Rattle.sat_check.specs.Report.{HasWritten}
use Rattle.report.specs.declared.status.Status.{Status}
use Rattle.report.specs.declared.status.Status.TheVariants.{Verified}

-- the status is 0, or this line was written
abbrev pub IsAnswered : (line : List ℕ) → Status → (old new : Option (List ℕ)) → Type 0
IsAnswered line status old new = (status ≡ Verified) ⊎ HasWritten line old new

-- a formula with this header and these clauses
pub record IsFormulaText (bytes : List ℕ) (h : Header) (clauses : List Clause) : Type 0 where
  pub within : IsFormula h clauses
  pub text : FormulaText (word_lines bytes) h clauses

-- a formula that no assignment satisfies
pub record IsUnsatisfiable (bytes : List ℕ) : Type 0 where
  pub header : Header
  pub clauses : List Clause
  pub text : IsFormulaText bytes header clauses
  pub refuted : (v : Assignment) → IsFalse (list_all (satisfies v) clauses)

-- A positive answer shows this of the bytes that the formula's reader has.
abbrev pub ShowsUnsatisfiable : (formula : Option (List ℕ)) → Status →
    (old new : Option (List ℕ)) → Type 0
ShowsUnsatisfiable formula status old new =
    (bytes : List ℕ) → formula ≡ Some bytes → IsAnswered (codes "s VERIFIED") status old new →
    IsUnsatisfiable bytes

-- One step further: where the bytes are the texts of clauses and of steps, and no read of the proof
-- failed, the steps verify the clauses.
abbrev pub StepsVerify : {Steps : Type 0} (IsText : List ℕ → Steps → Type 0)
    (Verify : List Clause → Steps → Type 0) (formula proof : Option (List ℕ))
    (has_failed : Bool) → Status → (old new : Option (List ℕ)) → Type 0
StepsVerify {Steps} IsText Verify formula proof has_failed status old new =
    (bytes proof_bytes : List ℕ) (h : Header) (clauses : List Clause) (steps : Steps) →
    formula ≡ Some bytes → proof ≡ Some proof_bytes → has_failed ≡ false →
    IsFormulaText bytes h clauses → IsText proof_bytes steps →
    IsAnswered (codes "s VERIFIED") status old new → Verify clauses steps

-- A formula and an output that lists literals: some assignment makes these true, and each that does
-- satisfies the formula.
pub record IsSatisfied (formula output : List ℕ) : Type 0 where
  pub header : Header
  pub clauses : List Clause
  pub text : IsFormulaText formula header clauses
  pub literals : List Literal
  pub within : IsTrue (list_all (is_literal 268435455) literals)
  pub listed : ModelText (word_lines output) literals
  pub some : (v : Assignment) × IsTrue (list_all (holds v) literals)
  pub each : (v : Assignment) → IsTrue (list_all (holds v) literals) →
      IsTrue (list_all (satisfies v) clauses)

-- A positive answer shows this of the bytes that the readers have.
abbrev pub ShowsSatisfied : (formula output : Option (List ℕ)) → Status →
    (old new : Option (List ℕ)) → Type 0
ShowsSatisfied formula output status old new =
    (bytes output_bytes : List ℕ) → formula ≡ Some bytes → output ≡ Some output_bytes →
    IsAnswered (codes "s MODEL VERIFIED") status old new → IsSatisfied bytes output_bytes
