-- The theorem, by the report and the grammars, and a run by DRAT's own proof system.
use Rattle.{cnf_base.proofs.SeenLemmas.seen_is_some, proofs.proofs.LratGrammar.lrat_both_ways}
use Rattle.cnf_base.proofs.SetLemmas.{all_each, any_from, any_some, each_all}
use Rattle.cnf_base.specs.{Literals.{Clause, Literal, has}, Stream.{Input, Reader, tells_failure}}
use Rattle.cnf_base.specs.{Printing.input_of, Seen.{IsSeen, OfBothSeen, Seen}}
use Rattle.cnf_base.specs.declared.{fault.Fault.Fault, input.Ending.TheVariants.{End, Failed}}
use Rattle.dimacs.{proofs.FormulaGrammar.formula_grammar, specs.declared.header.Header.Header}
use Rattle.{dimacs.specs.Claim.claim_of, proofs.specs.{Reading.Proof, Steps.Step}}
use Rattle.{dimacs.specs.Formula.Formula, sat_check.specs.Theorem.{ShowsUnsatisfiable, StepsVerify}}
use Rattle.{dimacs.specs.Formula.formula_of, theory.specs.Losses.{HasLost, LostBySteps, LostInDrat}}
use Rattle.{proofs.proofs.BinaryGrammar.binary_both_ways, std.proofs.lemmas.Bool.false_from_ne_true}
use Rattle.{proofs.proofs.DratGrammar.drat_both_ways, report.specs.declared.status.Status.Status}
use Rattle.{proofs.specs.{Grammar.IsLratText, Lrat.lrat_steps}, std.specs.Prelude.{IsFalse, ◌↔◌}}
use Rattle.sat_check.proofs.FormulaLemmas.{claim_consistent, claim_ends, claim_text, formula_ends}
use Rattle.{sat_check.proofs.FormulaLemmas.{formula_header, has_reverse}, std.specs.List.list_all}
use Rattle.sat_check.proofs.ModelLemmas.{Made, assigned, listed_holds, verified_satisfied}
use Rattle.sat_check.proofs.OutcomeLemmas.{Held, written_model, written_verified}
use Rattle.sat_check.proofs.ReportLemmas.{report_verified, verifies_sound}
use Rattle.sat_check.specs.{Code.Checking.peak_of, ModelReport.{Satisfies, meets, model_report}}
use Rattle.sat_check.specs.{Reach.{ReadsNoFurther, TellsWhy}, Runs.{RunsDrat, RunsLrat, RunsPlaced}}
use Rattle.sat_check.specs.Report.{ChecksProof, Outcome, Report, Reports, ReportsFormula, Verifies}
use Rattle.sat_check.specs.Report.{bare_steps, drat_proof, peak_by, rules_of}
use Rattle.sat_check.specs.Runs.{DratStepsVerify, IsDratProof, IsVerifiedBy, LratStepsVerify, Runs}
use Rattle.sat_check.specs.Theorem.{IsAnswered, IsFormulaText, IsSatisfied, ShowsSatisfied}
use Rattle.sat_check.specs.declared.{checked.Checked.Checked, options.DratOptions.DratOptions}
use Rattle.std.proofs.Common.{Bool, List, None, Option, Some, ap, append-nil, arith, codes, false}
use Rattle.std.proofs.Common.{refl, reverse, rules, slice_get, true, ℕ, ◌∷◌, ◌≡◌}
use Rattle.std.proofs.lemmas.List.Sums.{AllPass-from_list_all, list_all-from_AllPass}
use Rattle.std.proofs.lemmas.Option.{get_or_from_slice_get, slice_get-get_or, slice_get_within}
use Rattle.theory.specs.{Drat.{after_drat, drat_step}, Rules.{Rule, after, by_copies, drat, lrat}}
use Rattle.theory.specs.{Models.{Assignment, HasModel, holds, satisfies}, Systems.ProofSystem}
use Rattle.theory.specs.{Systems.drat_system, Verdicts.{Ending, Ends, EndsBy, VerdictBy, system_of}}
use Rattle.theory.specs.declared.{accepted.Accepted.Accepted, drat_rules.DratRules.DratRules}

-- ---- What was seen of a reader that has these bytes

module _ (old new : Reader) (seen : Seen old new) (bytes : List ℕ)
    (has_these : old.left ≡ Some bytes) where
  -- where no read failed, they are an input that fits
  seen_unless : (seen.met ≡ Some Failed → ⊥) → IsSeen seen (input_of bytes)
  seen_unless unfailed = search (rules, append-nil)

  -- so they are where each input that fits has an end
  seen_whole : ((i : Input) → IsSeen seen i → i.ending ≡ End) → IsSeen seen (input_of bytes)
  seen_whole ends = seen_unless (λ is. let e : Failed ≡ End =
      ends (record { bytes = seen.handed; ending = Failed }) (rw is (refl, refl)) in cc)

-- ---- Formulas

-- a formula without a fault is the text of its header and its clauses
formula_text : (bytes : List ℕ) → (formula_of (input_of bytes)).fault ≡ None
    → (h : Header) × IsFormulaText bytes h (formula_of (input_of bytes)).clauses
formula_text bytes whole = let read = formula_header (input_of bytes) whole in
    grind (arith, (formula_grammar.read_is_written bytes read.0 _ read.1))

-- and a text is read as those
text_read : (bytes : List ℕ) (h : Header) (clauses : List Clause) →
    IsFormulaText bytes h clauses → (formula_of (input_of bytes)).clauses ≡ clauses
text_read bytes h clauses t = ap (λ (f : Formula). f.clauses)
    (formula_grammar.written_is_read bytes h clauses t.within t.text)

-- ---- All clauses of a list

all_at : (p : Clause → Bool) (cs : List Clause) → list_all p cs ≡ true → (k : ℕ) (c : Clause) →
    slice_get cs k ≡ Some c → p c ≡ true
all_at p cs all k c at = rw (get_or_from_slice_get cs k c c at) at
    (AllPass-from_list_all p cs all k c (slice_get_within cs k c at))

-- no assignment satisfies clauses that have no model
no_model_refuted : (clauses : List Clause) → ¬ HasModel (slice_get clauses) → (v : Assignment) →
    IsFalse (list_all (satisfies v) clauses)
no_model_refuted clauses none v =
    false_from_ne_true _ (λ all. none (v, all_at (satisfies v) clauses all))

-- ---- Proofs

module _ (rule : Rule) (trace : Bool) (steps : Input → Proof)
    (formula formula_new proof proof_new : Reader) (old new : Held) (status : Status)
    (both : OfBothSeen formula formula_new proof proof_new
    (λ i j. Reports (system_of rule) trace i (steps j) old new status)) where
  -- a positive answer is that of a proof which verifies the formula
  verifies : IsAnswered (codes "s VERIFIED") status old new → (i j : Input) → IsSeen both.first i
      → IsSeen both.second j → Verifies (system_of rule) (formula_of i) (steps j)
  verifies answer i j seen also = let x = both.fact i j seen also in
      report_verified rule trace _ _ x.report x.reports (grind (arith, written_verified))

  -- so the formula was read whole
  whole_formula : IsAnswered (codes "s VERIFIED") status old new → (bytes : List ℕ) →
      formula.left ≡ Some bytes → IsSeen both.first (input_of bytes)
  whole_formula answer bytes holds = let j = seen_is_some proof proof_new both.second in
      seen_whole _ _ both.first bytes holds
      (λ i seen. formula_ends i (verifies answer i j.0 seen j.1).whole)

  pub shows_unsatisfiable : ShowsUnsatisfiable formula.left status old new
  shows_unsatisfiable bytes holds answer = let j = seen_is_some proof proof_new both.second in
      let v = verifies answer (input_of bytes) j.0 (whole_formula answer bytes holds) j.1 in
      let text = formula_text bytes v.whole in
      record {
        header = text.0;
        clauses = (formula_of (input_of bytes)).clauses;
        text = text.1;
        refuted = no_model_refuted _ (verifies_sound rule trace _ _ v);
      }

  pub shows_steps : (IsText : List ℕ → List Step → Type 0) → ((bytes : List ℕ) (ss : List Step) →
      IsText bytes ss → bare_steps (steps (input_of bytes)) ≡ ss) → StepsVerify IsText
      (IsVerifiedBy rule) formula.left proof.left (tells_failure proof_new) status old new
  shows_steps IsText is_read bytes proof_bytes h clauses ss holds also_holds quiet text steps_text
      answer = let v = verifies answer (input_of bytes) (input_of proof_bytes)
      (whole_formula answer bytes holds) (search rules) in (
        v.words,
        rw (← is_read proof_bytes ss steps_text) (rw (← text_read bytes h clauses text) v.verdict),
      )

-- the text of steps is read as those
drat_read : (binary : Bool) (bytes : List ℕ) (ss : List Step) → IsDratProof binary bytes ss →
    bare_steps (drat_proof binary (input_of bytes)) ≡ ss
drat_read true bytes ss text = (binary_both_ways.written_is_read bytes ss text).all
drat_read false bytes ss text = (drat_both_ways.written_is_read bytes ss text).all

lrat_read : (bytes : List ℕ) (ss : List Step) → IsLratText bytes ss →
    bare_steps (lrat_steps (input_of bytes)) ≡ ss
lrat_read bytes ss text = (lrat_both_ways.written_is_read bytes ss text).all

-- ---- Models

-- a clause with a listed literal is satisfied where these are true
met_true : (v : Assignment) (listed : List Literal) → list_all (holds v) (reverse listed) ≡ true →
    (c : Clause) → meets listed c ≡ true → satisfies v c ≡ true
met_true v listed trues c h = let w = any_some (has listed) c h in
    grind (arith, any_from, all_each, reverse, has_reverse)

satisfied_by : (bytes output_bytes : List ℕ) →
    Satisfies (claim_of (input_of output_bytes)) (formula_of (input_of bytes)).clauses
    → (formula_of (input_of bytes)).fault ≡ None → IsSatisfied bytes output_bytes
satisfied_by bytes output_bytes s whole = let text = formula_text bytes whole in
    let claim = claim_text output_bytes s.listed s.claimed in
    record {
      header = text.0;
      clauses = (formula_of (input_of bytes)).clauses;
      text = text.1;
      literals = reverse s.listed;
      within = claim.0.literals;
      listed = claim.1;
      some = (assigned (reverse s.listed), grind (arith, each_all, reverse, listed_holds));
      each = grind (arith, list_all-from_AllPass, slice_get-get_or, met_true);
    }

module _ (formula formula_new output output_new : Reader) (old new : Held) (status : Status)
    (Fact : Input → Input → Type 0) (both : OfBothSeen formula formula_new output output_new Fact)
    (told : (i j : Input) → Fact i j → Outcome status old new (model_report i j)) where
  -- a positive answer is that of a claim which satisfies the formula
  confirms : IsAnswered (codes "s MODEL VERIFIED") status old new → (i j : Input) →
      IsSeen both.first i → IsSeen both.second j
      → Satisfies (claim_of j) (formula_of i).clauses × ((formula_of i).fault ≡ None)
  confirms answer i j seen also = verified_satisfied (claim_of j) (formula_of i)
      (grind (arith, written_model)) (claim_consistent j)

  pub shows_satisfied : ShowsSatisfied formula.left output.left status old new
  shows_satisfied bytes output_bytes holds also_holds answer =
      let some_i = seen_is_some formula formula_new both.first in
      let some_j = seen_is_some output output_new both.second in
      let seen = seen_whole _ _ both.first bytes holds (search (rules, formula_ends, confirms)) in
      let also = seen_whole output output_new both.second output_bytes also_holds (λ j also. let s =
      (confirms answer some_i.0 j some_i.1 also).0 in claim_ends j s.listed s.claimed) in
      let said = confirms answer (input_of bytes) (input_of output_bytes) seen also in
      satisfied_by bytes output_bytes said.0 said.1

-- the same of what the lines hold, where the writer holds it
pub lines_satisfied : (formula formula_new output output_new : Reader) (checked : Checked)
    (old new first last : Held) → old ≡ first → new ≡ last → OfBothSeen formula formula_new output
    output_new (Made formula formula_new checked old new) →
    ShowsSatisfied formula.left output.left checked.status first last
lines_satisfied formula formula_new output output_new checked old new first last before after both =
    rw (← after, ← before) (shows_satisfied _ _ _ _ old new _ _ both (λ i j x. x.0))

-- ---- Runs of which less is said

-- where a fact is true of a run, so is what it implies
pub weakened : {status : Status} {P Q : Input → Input → Type 0}
    {formula formula_new second second_new : Reader} {had_failed has_failed is_flushed : Bool} →
    Runs formula formula_new second second_new had_failed has_failed is_flushed status P →
    ((i j : Input) → P i j → Q i j) →
    Runs formula formula_new second second_new had_failed has_failed is_flushed status Q
weakened run implies = record {
  checks = record { first = run.checks.first; second = run.checks.second; fact = search rules };
  read_failed = run.read_failed;
  write_failed = run.write_failed;
  no_failure = run.no_failure;
  flushed = run.flushed;
  gave_up = run.gave_up;
}

-- ---- A run by DRAT's own proof system is one by the rule, and the other way round

-- two systems that give the same verdicts and the same peaks
record Alike {S T : Type 0} (one : ProofSystem S) (other : ProofSystem T) : Type 0 where
  same : (formula : List Clause) (steps : List Step) (words : List Accepted) (ending : Ending) →
      VerdictBy one formula steps words ending ↔ VerdictBy other formula steps words ending
  peak : (formula : List Clause) (steps : List Step) (words : List Accepted) →
      peak_by one.sum one.next (one.first formula) steps words ≡
      peak_by other.sum other.next (other.first formula) steps words

turned : {S T : Type 0} (one : ProofSystem S) (other : ProofSystem T) → Alike one other → Alike other one
turned one other alike = search rules

-- ---- What is said by one of them is said by the other

module _ {S T : Type 0} (one : ProofSystem S) (other : ProofSystem T)
    (alike : Alike one other) where
  formula_by : (trace : Bool) (header : Option Header) (clauses : List Clause)
      (fault : Option Fault) (p : Proof) (r : Report) → ReportsFormula one trace header clauses
      fault p r → ReportsFormula other trace header clauses fault p r
  formula_by trace header clauses fault p r h = search rules

  module _ (trace : Bool) (i : Input) (p : Proof) (old new : Held) (status : Status) where
    reports_by : Reports one trace i p old new status → Reports other trace i p old new status
    reports_by x = search (rules, formula_by)

    proof_by : ChecksProof one trace i p old new status → ChecksProof other trace i p old new status
    proof_by x = search (rules, reports_by)

  reach_by : (f : Formula) (p : Proof) (old new : Reader) → ReadsNoFurther one f p old new → ReadsNoFurther other f p old new
  reach_by f p old new x = search rules

  -- where the same losses are said in two ways
  why_by : (One Other : List Clause → List Step → List Accepted → Type 0) → ((formula : List Clause)
      (steps : List Step) (words : List Accepted) → One formula steps words ↔ Other formula steps
      words) → (fault : Option Fault) (clauses : List Clause) (p : Proof) (checked : Checked) →
      TellsWhy one One fault clauses p checked → TellsWhy other Other fault clauses p checked
  why_by One Other losses fault clauses p checked x = search rules

-- ---- DRAT, as a rule and by itself

module _ (rules : DratRules) where
  abbrev own : ProofSystem (List Clause)
  own = drat_system rules

  ends_both : (live : List Clause) (steps : List Step) (words : List Accepted) (ending : Ending) →
      Ends (by_copies rules live) steps words ending ↔
      EndsBy own.MayAnswer own.next live steps words ending
  ends_both live (s ∷ ss) (w ∷ ws) ending =
      grind (arith, (ends_both (after_drat live (drat_step rules s) w) ss ws ending))
  ends_both live steps words ending = (λ x. x, λ x. x)

  peaks : (live : List Clause) (steps : List Step) (words : List Accepted) →
      peak_of (by_copies rules live) steps words ≡ peak_by own.sum own.next live steps words
  peaks live (s ∷ ss) (w ∷ ws) = cc (peaks (after_drat live (drat_step rules s) w) ss ws)
  peaks live steps words = refl

  losses : (live : List Clause) (steps : List Step) (words : List Accepted) → HasLost (by_copies rules live) steps words ↔ LostInDrat rules live steps words
  losses live (s ∷ ss) (w ∷ ws) =
      grind (arith, (losses (after_drat live (drat_step rules s) w) ss ws))
  losses live steps words = (λ x. x, λ x. x)

  drat_alike : Alike (system_of (drat rules)) own
  drat_alike = grind (arith, ends_both, peaks)

-- what was promised of a run by the rule is promised by DRAT's own system
pub drat_placed : (options : DratOptions) {formula formula_new proof proof_new : Reader}
    {old new : Held} {had_failed has_failed is_flushed : Bool} {checked : Checked} →
    RunsPlaced (system_of (drat (rules_of options))) (LostBySteps (drat (rules_of options)))
    options.trace (drat_proof options.binary) formula formula_new proof proof_new old new
    had_failed has_failed is_flushed checked → RunsDrat options formula formula_new proof proof_new old new had_failed has_failed is_flushed checked
drat_placed options runs =
    weakened runs (λ i j x. search (proof_by, reach_by, why_by, drat_alike, losses))

-- ---- What a run shows by its report

module _ (options : DratOptions) (formula formula_new proof proof_new : Reader) (old new : Held)
    (had_failed has_failed is_flushed : Bool) (status : Status)
    (run : Runs formula formula_new proof proof_new had_failed has_failed is_flushed status (λ i j.
    Reports (drat_system (rules_of options)) options.trace i (drat_proof options.binary j) old new
    status)) where
  abbrev rule : Rule
  rule = drat (rules_of options)

  by_rule : OfBothSeen formula formula_new proof proof_new (λ i j.
      Reports (system_of rule) options.trace i (drat_proof options.binary j) old new status)
  by_rule = (weakened run (λ i j x. search (rules, reports_by, turned, drat_alike))).checks

  pub drat_unsatisfiable : ShowsUnsatisfiable formula.left status old new
  drat_unsatisfiable = shows_unsatisfiable rule _ _ _ _ _ _ _ _ _ by_rule

  pub drat_steps_verify : DratStepsVerify options formula proof proof_new status old new
  drat_steps_verify = shows_steps rule _ (drat_proof options.binary) _ _ _ _ _ _ _ by_rule
      (IsDratProof options.binary) (drat_read options.binary)

module _ (trace : Bool) (formula formula_new proof proof_new : Reader) (old new : Held)
    (had_failed has_failed is_flushed : Bool) (checked : Checked) (run : RunsLrat trace formula
    formula_new proof proof_new old new had_failed has_failed is_flushed checked) where
  reported : OfBothSeen formula formula_new proof proof_new
      (λ i j. Reports (system_of lrat) trace i (lrat_steps j) old new checked.status)
  reported = (weakened run (λ i j x. x.0.reports)).checks

  pub lrat_unsatisfiable : ShowsUnsatisfiable formula.left checked.status old new
  lrat_unsatisfiable = shows_unsatisfiable lrat trace lrat_steps _ _ _ _ _ _ _ reported

  pub lrat_steps_verify : LratStepsVerify formula proof proof_new checked.status old new
  lrat_steps_verify =
      shows_steps lrat trace lrat_steps _ _ _ _ _ _ _ reported IsLratText lrat_read
