-- What is promised of a run of a check, by its readers, its writer and its status.
use Rattle.std.specs.Prelude.{◌≡◌, ◌⊎◌, ℕ, Bool, true, false, List, Option, MatchBool}
use Rattle.cnf_base.specs.Literals.{Clause}
use Rattle.cnf_base.specs.Seen.{OfBothSeen, OneHasFailed}
use Rattle.cnf_base.specs.Stream.{Input, Reader, tells_failure}
use Rattle.dimacs.specs.Formula.{formula_of}
use Rattle.dimacs.specs.Claim.{claim_of}
use Rattle.proofs.specs.Grammar.{IsDratText, IsBinaryProof, IsLratText}
use Rattle.proofs.specs.Lrat.{lrat_steps}
use Rattle.proofs.specs.Reading.{Proof}
use Rattle.proofs.specs.Steps.{Step}
use Rattle.theory.specs.Losses.{LostBySteps, LostInDrat}
use Rattle.theory.specs.Rules.{Rule, drat, lrat}
use Rattle.theory.specs.Systems.{ProofSystem, drat_system}
use Rattle.theory.specs.Verdicts.{verified, Verdict, system_of}
use Rattle.theory.specs.declared.accepted.Accepted.{Accepted}
use Rattle.sat_check.specs.FormulaReach.{ReadsNoFurtherThanFault}
use Rattle.sat_check.specs.ModelReport.{ChecksModel, ReadsFormulaNoFurther, TellsModelFault}
use Rattle.sat_check.specs.Reach.{ReadsNoFurther, TellsWhy}
use Rattle.sat_check.specs.Report.{ChecksProof, drat_proof, is_cut_short, rules_of}
use Rattle.sat_check.specs.Theorem.{StepsVerify}
use Rattle.sat_check.specs.declared.checked.Checked.{Checked}
use Rattle.sat_check.specs.declared.options.DratOptions.{DratOptions}
use Rattle.report.specs.declared.status.Status.{Status}
use Rattle.report.specs.declared.status.Status.TheVariants.{ReadFailed, WriteFailed, OutOfMemory}

-- What was seen of the two readers in a run is one pair of inputs, and of this the fact is true. A
-- reader or the writer tells of each failure. Unless memory or the writer failed, the writer tells
-- of no new failure, and all was flushed. Where memory ran out, all was flushed, or the writer tells
-- of a failure.
pub record Runs (formula formula_new second second_new : Reader)
    (had_failed has_failed is_flushed : Bool) (status : Status) (Fact : Input → Input → Type 0)
    : Type 0 where
  pub checks : OfBothSeen formula formula_new second second_new Fact
  pub read_failed : status ≡ ReadFailed → OneHasFailed formula_new second_new
  pub write_failed : status ≡ WriteFailed → has_failed ≡ true
  pub no_failure : is_cut_short status ≡ false → has_failed ≡ had_failed
  pub flushed : is_cut_short status ≡ false → is_flushed ≡ true
  pub gave_up : status ≡ OutOfMemory → (is_flushed ≡ true) ⊎ (has_failed ≡ true)

-- A run checked a proof of a formula. It read no more of the proof than the check takes, and no
-- more of the formula than its fault takes. `steps` are those of an input; the writer held `old`,
-- and then `new`.
abbrev pub RunsProof : {State : Type 0} → ProofSystem State → (trace : Bool) →
    (steps : Input → Proof) → (formula formula_new proof proof_new : Reader) →
    (old new : Option (List ℕ)) → (had_failed has_failed is_flushed : Bool) → Status → Type 0
RunsProof system trace steps formula formula_new proof proof_new old new had_failed has_failed
    is_flushed status =
    Runs formula formula_new proof proof_new had_failed has_failed is_flushed status
    (λ i j. ChecksProof system trace i (steps j) old new status
    × ReadsNoFurther system (formula_of i) (steps j) proof proof_new
    × ReadsNoFurtherThanFault i formula formula_new)

-- The same, and of the same inputs it tells where the refused step ends, or what is wrong with one.
abbrev pub RunsPlaced : {State : Type 0} → ProofSystem State →
    (HasLost : List Clause → List Step → List Accepted → Type 0) → (trace : Bool) →
    (steps : Input → Proof) → (formula formula_new proof proof_new : Reader) →
    (old new : Option (List ℕ)) → (had_failed has_failed is_flushed : Bool) → Checked → Type 0
RunsPlaced system HasLost trace steps formula formula_new proof proof_new old new had_failed
    has_failed is_flushed checked =
    Runs formula formula_new proof proof_new had_failed has_failed is_flushed checked.status
    (λ i j. ChecksProof system trace i (steps j) old new checked.status
    × ReadsNoFurther system (formula_of i) (steps j) proof proof_new
    × TellsWhy system HasLost (formula_of i).fault (formula_of i).clauses (steps j) checked
    × ReadsNoFurtherThanFault i formula formula_new)

-- of a proof in DRAT, by the options
abbrev pub RunsDrat : DratOptions → (formula formula_new proof proof_new : Reader) →
    (old new : Option (List ℕ)) → (had_failed has_failed is_flushed : Bool) → Checked → Type 0
RunsDrat options =
    RunsPlaced (drat_system (rules_of options)) (LostInDrat (rules_of options)) options.trace
    (drat_proof options.binary)

-- of one in LRAT
abbrev pub RunsLrat : (trace : Bool) → (formula formula_new proof proof_new : Reader) →
    (old new : Option (List ℕ)) → (had_failed has_failed is_flushed : Bool) → Checked → Type 0
RunsLrat trace = RunsPlaced (system_of lrat) (LostBySteps lrat) trace lrat_steps

-- A run checked the model that an output claims, read no more of the formula than that takes, and
-- of the same inputs it tells what is wrong with one.
abbrev pub RunsModel : (formula formula_new output output_new : Reader) →
    (old new : Option (List ℕ)) → (had_failed has_failed is_flushed : Bool) → Checked → Type 0
RunsModel formula formula_new output output_new old new had_failed has_failed is_flushed checked =
    Runs formula formula_new output output_new had_failed has_failed is_flushed checked.status
    (λ i j. ChecksModel i j old new checked.status
    × ReadsFormulaNoFurther (claim_of j) i formula formula_new
    × TellsModelFault (claim_of j) (formula_of i) checked)

-- ---- The theorem's step further, by rules and formats

-- the steps verify the clauses
abbrev pub IsVerifiedBy : Rule → List Clause → List Step → Type 0
IsVerifiedBy rule clauses steps =
    (words : List Accepted) × Verdict rule clauses steps words verified

-- the bytes are the text of these steps in DRAT, or spell them in the binary form
abbrev pub IsDratProof : (binary : Bool) → List ℕ → List Step → Type 0
IsDratProof binary bytes steps =
    MatchBool binary (IsBinaryProof bytes steps) (IsDratText bytes steps)

-- a proof in DRAT, by the options
abbrev pub DratStepsVerify : DratOptions → (formula proof proof_new : Reader) → Status →
    (old new : Option (List ℕ)) → Type 0
DratStepsVerify options formula proof proof_new =
    StepsVerify (IsDratProof options.binary) (IsVerifiedBy (drat (rules_of options))) formula.left
    proof.left (tells_failure proof_new)

-- one in LRAT
abbrev pub LratStepsVerify : (formula proof proof_new : Reader) → Status →
    (old new : Option (List ℕ)) → Type 0
LratStepsVerify formula proof proof_new =
    StepsVerify IsLratText (IsVerifiedBy lrat) formula.left proof.left (tells_failure proof_new)
