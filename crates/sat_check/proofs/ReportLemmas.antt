-- A report: the rest of it, step by step, and what status 0 and a written `s VERIFIED` mean.
use Rattle.{cnf_base.specs.Literals.Clause, proofs.specs.{Reading.{Proof, with_step}, Steps.Step}}
use Rattle.cnf_base.specs.{Printing.line_of, Stream.{Input, Reader}, Text.{Listing, listing_of}}
use Rattle.{cnf_base.specs.declared.fault.Fault.Fault, dimacs.specs.declared.header.Header.Header}
use Rattle.dimacs.specs.Formula.{Formula, formula_of, formula_with, header_of}
use Rattle.{proofs.specs.declared.step_end.StepEnd.StepEnd, theory.specs.Answers.UnlessOutOfMemory}
use Rattle.report.specs.Lines.{a_proof, formula_line, refusal_line, shown, steps_line}
use Rattle.report.specs.declared.status.Status.{Status, TheVariants.{NotVerified, Verified}}
use Rattle.sat_check.proofs.OutcomeLemmas.{BrokeOff, Held, Outcome-after, Outcome-line, Reported}
use Rattle.sat_check.proofs.OutcomeLemmas.{ReportsOf, Writes-all, no_verdict, written_verified}
use Rattle.sat_check.specs.Code.Checking.{IsLoaded, IsOpen, IsRefused, Rest, RunsInto, Stops}
use Rattle.sat_check.specs.Code.{Checking.{counted, is_memory, peak_of, traced}, Reach.IsVerdict}
use Rattle.sat_check.specs.Report.{Checks, ChecksProof, Report, Reports, ReportsAreUnique, text_of}
use Rattle.sat_check.specs.Report.{ReportsFormula, Verifies, bare_steps, concluded, proof_report}
use Rattle.sat_check.specs.{Report.with_lines, Runs.RunsPlaced, declared.checked.Checked.Checked}
use Rattle.std.proofs.Common.{Bool, Err, List, None, Ok, Option, Some, [], arith, false, max, refl}
use Rattle.std.{proofs.Common.{rules, slice_get, true, ℕ, ◌+◌, ◌∷◌, ◌≡◌, ◌≤◌}, specs.Prelude.Result}
use Rattle.{steps.specs.ProofSession.View, writers.specs.Lines.{Sink, Writes}}
use Rattle.theory.proofs.LawLemmas.Existence.{after_finite, same_finite, start_finite}
use Rattle.theory.proofs.LawLemmas.{Rules.{after_same, sum_same}, Verdicts.verdict_unique}
use Rattle.theory.proofs.LawLemmas.Verdicts.{ends_same, some_ending, some_verdict, verdict_sound}
use Rattle.theory.specs.{Losses.LostBySteps, Verdicts.{is_last, refused, system_of, verified}}
use Rattle.theory.specs.{Models.HasModel, declared.accepted.Accepted.{Accepted, TheVariants.Empty}}
use Rattle.theory.specs.Rules.{Answers, IsFinite, Rule, Same, State, after, start, sum_of}
use Rattle.theory.specs.declared.refusal.Refusal.{Refusal, TheVariants.OutOfMemory as RefusedMemory}

-- ---- What a report says

module _ (rule : Rule) (trace : Bool) (f : Formula) (p : Proof) where
  -- a report of status 0 is that of a proof that verifies the formula
  pub report_verified : (r : Report) → ReportsOf rule trace f p r → r.status ≡ Verified → Verifies (system_of rule) f p
  report_verified r reports is = by f.header f.fault refl reports
    where
      by : (header : Option Header) (fault : Option Fault) → f.fault ≡ fault → ReportsFormula (system_of rule) trace header f.clauses fault p r → Verifies (system_of rule) f p
      by header fault whole e = search rules

  -- and the report of such a proof has status 0
  pub verifies_reported : (r : Report) → Verifies (system_of rule) f p → ReportsOf rule trace f p r → r.status ≡ Verified
  verifies_reported r v reports = by f.header f.fault v.whole reports
    where
      by : (header : Option Header) (fault : Option Fault) → fault ≡ None → ReportsFormula (system_of rule) trace header f.clauses fault p r → r.status ≡ Verified
      by header fault whole e = search (rules, verdict_unique)

  -- a formula that a proof verifies has no model
  pub verifies_sound : Verifies (system_of rule) f p → ¬ HasModel (slice_get f.clauses)
  verifies_sound v = verdict_sound rule f.clauses (bare_steps p) v.words v.verdict

-- all that is promised of a check of a proof
pub checks_proof : (rule : Rule) (trace : Bool) (i : Input) (p : Proof) (old new : Held)
    (status : Status) → Reports (system_of rule) trace i p old new status → ChecksProof (system_of rule) trace i p old new status
checks_proof rule trace i p old new status x = record {
  reports = x;
  consequences = record {
    verified = search (rules, report_verified);
    complete = search (rules, verifies_reported);
    sound = λ is. refuted (grind arith);
    written = λ w. refuted (grind (arith, written_verified));
  };
}
  where
    refuted : x.report.status ≡ Verified → ¬ HasModel (slice_get (formula_of i).clauses)
    refuted is = verifies_sound _ trace _ _ (report_verified _ _ _ _ x.report x.reports is)

-- a run into lines over a writer, said of the writer
pub runs_placed : (rule : Rule) (trace : Bool) (steps : Input → Proof)
    (formula formula_new proof proof_new : Reader) (checked : Checked) (was now : Sink)
    (old new : Held) (had_failed has_failed is_flushed : Bool) → was.held ≡ old → now.held ≡ new →
    was.has_failed ≡ had_failed → now.has_failed ≡ has_failed → now.is_flushed ≡ is_flushed →
    RunsInto rule trace steps formula formula_new proof proof_new was now checked →
    RunsPlaced (system_of rule) (LostBySteps rule) trace steps formula formula_new proof proof_new old new had_failed has_failed is_flushed checked
runs_placed rule trace steps formula formula_new proof proof_new checked was now old new had_failed
    has_failed is_flushed before after had has flushed runs = let both = runs.report in
    rw (← before, ← after) (record {
      checks = record {
        first = both.first;
        second = both.second;
        fact = λ i j s t. let x = both.fact i j s t in
            (checks_proof _ _ _ _ _ _ _ x.0, x.1, x.2, x.3);
      };
      read_failed = search rules;
      write_failed = search rules;
      no_failure = search rules;
      flushed = search rules;
      gave_up = search rules;
    })

-- ---- A formula and a proof have at most one report

pub reports_unique : ReportsAreUnique
reports_unique rule trace f p first second a b = search (rules, verdict_unique)

-- ---- The rest of it

pub shown_same : (m n : ℕ) → m ≡ counted n → shown m ≡ shown n
shown_same m n e = grind arith

-- ---- The rest of a report, step by step

peak_same : (steps : List Step) (words : List Accepted) (first second : State) → Same first second → peak_of first steps words ≡ peak_of second steps words
peak_same (step ∷ steps) (word ∷ words) s t same =
    cc (sum_same s t same, peak_same steps words _ _ (after_same s t step word same))
peak_same steps words first second h = search (rules, sum_same)

peak_least : (steps : List Step) (words : List Accepted) (state : State) → sum_of state ≤ peak_of state steps words
peak_least (step ∷ steps) (word ∷ words) state = omega arith
peak_least steps words state = omega arith

peak_none : (steps : List Step) (state : State) → peak_of state steps [] ≡ sum_of state
peak_none [] state = refl
peak_none (step ∷ steps) state = refl

-- the reports of a step that was refused, and of the accepted empty clause
abbrev refusal_report : ℕ → Refusal → Report
refusal_report n r = concluded a_proof (refusal_line n r) NotVerified

abbrev steps_report : ℕ → ℕ → Report
steps_report n peak = concluded a_proof (steps_line n peak) Verified

module _ (trace : Bool) (s : State) (n peak : ℕ) where
  pub Rest-some : IsFinite s → (p : Proof) → (r : Report) × Rest trace s n peak p r
  Rest-some b p = let v = some_ending (bare_steps p) s b in
      (proof_report trace n (max peak (peak_of s (bare_steps p) v.0)) v.0 v.1 p.fault, grind arith)

  module _ (st : Step) (end : StepEnd) (offset : ℕ) (p : Proof) where
    -- what follows this step too
    abbrev pub RestFrom : Report → Type 0
    RestFrom = Rest trace s n peak (with_step st end offset p)

    Rest-refused : (r : Refusal) → Answers s st (Err r) → RestFrom (refusal_report (n + 1) r)
    Rest-refused r a =
        record { words = []; ending = refused r; verdict = (r, refl, a); report = search rules }

    Rest-verified : (t : State) → Answers s st (Ok Empty) → Same t (after s st Empty) →
        sum_of s ≤ peak → RestFrom (with_lines (traced trace (n + 1) Empty) (steps_report (n + 1) (max peak (sum_of t))))
    Rest-verified t a same least = record {
      words = Empty ∷ [];
      ending = verified;
      verdict = (a, (refl, refl));
      report = search (rules, arith, sum_same, peak_none);
    }

    module _ (word : Accepted) (t : State) (a : Answers s st (Ok word))
        (same : Same t (after s st word)) (least : sum_of s ≤ peak) where
      pub Rest-step : (r : Report) → is_last word ≡ false → Rest trace t (n + 1)
          (max peak (sum_of t)) p r → RestFrom (with_lines (traced trace (n + 1) word) r)
      Rest-step r not_last rest = record {
        words = word ∷ rest.words;
        ending = rest.ending;
        verdict = search (rules, ends_same);
        report = grind (arith, peak_same, peak_least);
      }

-- ---- What a step that ends a check leaves of the report

module _ (trace : Bool) (number : ℕ) (old : View) (step : Step) (was now : Sink)
    (status : Status) where
  -- what is known of a step that is refused, with or without memory
  abbrev pub Refuses : Refusal → Type 0
  Refuses r = (is_memory r ≡ true → BrokeOff status was now)
      × UnlessOutOfMemory (Err r) (Answers old.state step (Err r))

  pub Stops-refused : (r : Refusal) → Refuses r → (is_memory r ≡ false → Reported status was now
      (refusal_report number r)) → Stops trace number old step was now status
  Stops-refused RefusedMemory refuses told n offset end p is least finite =
      let some = Rest-some _ _ _ _ finite _ in (some.0, some.1, refuses.0 refl some.0)
  Stops-refused r refuses told n offset end p is least finite = (
    _,
    Rest-refused _ _ _ _ _ _ _ _ _ refuses.1,
    rw (← shown_same number (n + 1) is) (told refl),
  )

  -- a step is refused, if there was memory
  pub was_refused : (r : Refusal) → Refuses r → IsVerdict status → IsRefused old.state step
  was_refused RefusedMemory refuses v = absurd (no_verdict _ _ _ [] (refuses.0 refl _) v)
  was_refused r refuses v = (r, refuses.1)

  module _ (new : View) (word : Accepted) (answers : Answers old.state step (Ok word))
      (same : Same new.state (after old.state step word))
      (peak : new.peak ≡ max old.peak (sum_of new.state)) where
    verified_rest : (n offset : ℕ) (end : StepEnd) (p : Proof) → word ≡ Empty → sum_of old.state ≤ old.peak → RestFrom trace old.state n old.peak step end offset p
        (with_lines (traced trace (n + 1) word) (steps_report (n + 1) new.peak))
    verified_rest n offset end p is least = search (rules, Rest-verified)

    -- the trace's line broke off
    pub Stops-traced :
        ((x : Report) → Reported status was now (with_lines (traced trace number word) x)) →
        Stops trace number old step was now status
    Stops-traced o n offset end p is least finite = by (is_last word) refl
      where
        by : (v : Bool) → is_last word ≡ v → (x : Report) × RestFrom trace old.state n old.peak step end offset p x × Reported status was now x
        by true e = (
          _,
          verified_rest n offset end p (search rules) least,
          rw (← shown_same number (n + 1) is) (o _),
        )
        by false e = let some = Rest-some _ _ _ _ (same_finite new.state _ same
            (after_finite old.state step word finite)) _ in (
              _,
              Rest-step _ _ _ _ _ _ _ _ _ _ answers same least some.0 e some.1,
              rw (← shown_same number (n + 1) is) (o some.0),
            )

    -- the accepted empty clause
    pub Stops-verified : (mid : Sink) (m : ℕ) → is_last word ≡ true → m ≡ new.peak → Writes was mid
        (text_of (traced trace number word)) → mid.is_broken ≡ false → Reported status mid now
        (steps_report number m) → Stops trace number old step was now status
    Stops-verified mid m e same_peak wrote whole o n offset end p is least finite =
        let rest = verified_rest n offset end p (search rules) least in (
          _,
          rest,
          rw (← shown_same number (n + 1) is, ← same_peak) (Outcome-after status _ _ _
              (traced trace number word) (steps_report number m)
              (Writes-all was mid _ wrote whole) o),
        )

-- ---- A whole report

module _ (rule : Rule) (s : View) (clauses : List Clause) (l : IsLoaded rule s clauses) where
  pub loaded_open : s.is_verified ≡ false → IsOpen s
  loaded_open unverified = grind (arith, same_finite, start_finite, sum_same, l.state)

  module _ (trace : Bool) (h : Header) (p : Proof) where
    -- what the check of these clauses reports after the formula's line
    abbrev pub ChecksAs : Report → Type 0
    ChecksAs r = Checks (system_of rule) trace h clauses p (with_lines (formula_line h ∷ []) r)

    -- no clause is empty, and the steps were checked
    pub checks_rest : (r : Report) → s.is_verified ≡ false → Rest trace s.state 0 s.peak p r → ChecksAs r
    checks_rest r unverified rest = search (rules, arith, ends_same, peak_same, peak_least)

    -- some clause is empty
    pub checks_verified : s.is_verified ≡ true → ChecksAs (steps_report 0 s.peak)
    checks_verified is = record {
      words = [];
      ending = verified;
      verdict = search rules;
      report = search (rules, peak_none);
    }

    -- there is a report in any case
    pub checks_some : (r : Report) × ChecksAs r
    checks_some = let v = some_verdict rule clauses (bare_steps p) in
        let peak = peak_of (start rule clauses) (bare_steps p) v.0 in
        (proof_report trace 0 peak v.0 v.1 p.fault, grind arith)

    -- a formula with an empty clause
    pub verified_report : (status : Status) (was mid now : Sink) (m : ℕ) → s.is_verified ≡ true →
        m ≡ s.peak → Writes was mid (line_of (formula_line h)) → mid.is_broken ≡ false → Reported status mid now (steps_report 0 m) →
        (r : Report) × Checks (system_of rule) trace h clauses p r × Reported status was now r
    verified_report status was mid now m is same_peak wrote whole o = (
      _,
      checks_verified is,
      Outcome-line _ _ _ _ _ _ wrote whole (rw (← same_peak) o),
    )

-- ---- From the formula to the report

module _ (rule : Rule) (trace : Bool) where
  -- a formula without a fault
  pub reports_checked : (f : Formula) (p : Proof) (h : Header) (r : Report) → f.header ≡ Some h →
      f.fault ≡ None → Checks (system_of rule) trace h f.clauses p r → ReportsOf rule trace f p r
  reports_checked f p h r header fault checks = rw header (rw fault checks)

  -- each formula and proof has a report
  report_any : (h : Result (Header × Listing) (Fault × List ℕ)) (p : Proof) → (r : Report) × ReportsOf rule trace (formula_with h) p r
  report_any (Err f) p = (_, refl)
  report_any (Ok h) p = by (formula_with (Ok h)).fault
    where
      by : (o : Option Fault) → (r : Report) × ReportsFormula (system_of rule) trace (Some h.0) (formula_with (Ok h)).clauses o p r
      by (Some f) = (_, refl)
      by None = let v = some_verdict rule (formula_with (Ok h)).clauses (bare_steps p) in
          (_, record { words = v.0; ending = v.1; verdict = v.2; report = refl })

  pub some_report : (i : Input) (p : Proof) → (r : Report) × ReportsOf rule trace (formula_of i) p r
  some_report i p = report_any (header_of (listing_of i)) p
