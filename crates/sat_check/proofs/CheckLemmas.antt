-- A check, step by step, and how far it reads a proof.
use Rattle.cnf_base.proofs.SeenLemmas.{Seen-fact, Seen-nothing, Seen-run}
use Rattle.cnf_base.proofs.StreamLemmas.{Along-map, Along-none, Along-then, Along-within}
use Rattle.cnf_base.specs.{Literals.Clause, Seen.{IsSeen, OneHasFailed, Seen}, Stream.unread_stream}
use Rattle.cnf_base.specs.Stream.{Along, Input, Reader, Stream, Suffix, bytes_read, from_start}
use Rattle.cnf_base.specs.declared.fault.Fault.{Fault, TheVariants.OutOfMemory}
use Rattle.{dimacs.specs.Formula.{Formula, formula_of}, theory.proofs.LawLemmas.Losses.lost_same}
use Rattle.proofs.specs.Reading.{GivesStep, IsFaulty, PassesNoEnd, PlacedStep, Proof, ProofReading}
use Rattle.{proofs.specs.{Reading.with_step, Steps.Step}, theory.specs.Losses.{HasLost, StepLoses}}
use Rattle.{proofs.specs.declared.step_end.StepEnd.StepEnd, writers.proofs.LineLemmas.Writes-then}
use Rattle.{report.specs.Lines.a_proof, std.specs.List.list_any, theory.specs.Rules.{start, sum_of}}
use Rattle.report.specs.declared.status.Status.TheVariants.{Malformed, NotVerified, WriteFailed}
use Rattle.report.specs.declared.status.Status.TheVariants.{OutOfMemory as NoMemory, ReadFailed}
use Rattle.sat_check.proofs.{FormulaLemmas.unread_fault, OutcomeLemmas.text_of-append}
use Rattle.sat_check.proofs.OutcomeLemmas.{BrokeOff, FailsOn, Lines, Outcome-after, Reported}
use Rattle.sat_check.proofs.ReportLemmas.{Rest-some, Rest-step, shown_same, some_report}
use Rattle.sat_check.specs.Code.{Checked.ended as checked_as, Checking.{Stops, counted, end_report}}
use Rattle.sat_check.specs.Code.Checking.{AllReports, GoesOn, IsLoaded, IsOpen, IsRefused, traced}
use Rattle.sat_check.specs.Code.Checking.{LeavesProof, LeavesRest, Loads, Rest, RunsInto, Standing}
use Rattle.sat_check.specs.{Code.Writer.LeavesWriter, Report.{Report, Reports, bare_steps, text_of}}
use Rattle.sat_check.specs.{FormulaReach.ReadsNoFurtherThanFault, declared.checked.Checked.Checked}
use Rattle.sat_check.specs.{Reach.{ReadsNoFurther, TellsFault, deciding_step}, Report.with_lines}
use Rattle.std.proofs.Common.{Bool, Err, IsSome, List, None, Ok, Option, Some, [], append_assoc}
use Rattle.std.proofs.Common.{arith, codes, false, is_some, map, refl, rules, sym, true, ℕ, ◌++◌}
use Rattle.std.{proofs.Common.{◌+◌, ◌↔◌, ◌∙◌, ◌∷◌, ◌≡◌, ◌≤◌, ◌⊎◌}, specs.Prelude.{IsTrue, Result}}
use Rattle.std.proofs.lemmas.{Bool.{MatchBool-at_false, false≢true}, Option.none-some}
use Rattle.{steps.specs.ProofSession.{View, is_over}, writers.specs.Lines.{Sink, Writes}}
use Rattle.theory.proofs.LawLemmas.{Existence.{after_finite, same_finite}, Rules.answer_unique}
use Rattle.theory.{proofs.LawLemmas.Verdicts.ends_same, specs.declared.accepted.Accepted.Accepted}
use Rattle.theory.proofs.LratLemmas.{LiveSets.SameClauses-sym, Steps.{ok_err, ok_is}}
use Rattle.theory.specs.Rules.{Answers, IsFinite, Rule, Same, State, after, by_copies, by_ids}
use Rattle.theory.specs.Verdicts.{Ending, Ends, Verdict, is_empty, is_last, system_of, verified}
use Rattle.sat_check.specs.declared.input_fault.InputFault.TheVariants as of

same_sym : (s t : State) → Same s t → Same t s
same_sym (by_ids s) (by_ids t) same = (SameClauses-sym _ _ same.0, sym same.1)
same_sym (by_copies a x) (by_copies b y) same = search rules
same_sym s t same = absurd same

-- ---- The steps of a proof

-- no fault is told where no input is malformed
pub TellsFault-none : (formula second : Option Fault) (checked : Checked) → checked.fault ≡ None → (checked.status ≡ Malformed → ⊥) → TellsFault formula second checked
TellsFault-none formula second checked none not = grind arith

-- nothing is told of a step
abbrev pub TellsNoStep : Checked → Type 0
TellsNoStep checked = (checked.refused ≡ None) × (checked.literal_lost ≡ false)

-- what is told of the step with which a check ended, where that was refused
pub record TellsStep (s : View) (step : Step) (end : Option StepEnd) (checked : Checked)
    : Type 0 where
  pub refuses : checked.status ≡ NotVerified → IsRefused s.state step
  pub refused : checked.status ≡ NotVerified → checked.refused ≡ end
  pub only : (checked.status ≡ NotVerified → ⊥) → checked.refused ≡ None
  pub lost : checked.status ≡ NotVerified → checked.literal_lost ≡ s.has_lost_literal
  pub none_lost : (checked.status ≡ NotVerified → ⊥) → checked.literal_lost ≡ false
  pub fault : checked.fault ≡ None
  pub well_formed : checked.status ≡ Malformed → ⊥

abbrev no_step : Option Fault → Option ℕ → Proof
no_step fault end = record { steps = []; fault = fault; fault_end = end }

-- no step decides where none is to come
LeavesRest-none : (s : View) (fault : Option Fault) (end : Option ℕ) (rest : Suffix) (checked : Checked) → TellsNoStep checked → TellsFault None fault checked →
    PassesNoEnd (no_step fault end) rest → LeavesRest s (no_step fault end) rest checked
LeavesRest-none s fault end rest checked quiet tells reach =
    search (rules, quiet.0, quiet.1, none-some)

module _ (s : View) (step : Step) (end : StepEnd) (offset : ℕ) (p : Proof) (rest : Suffix)
    (checked : Checked) where
  abbrev here : PlacedStep
  here = record { step = step; end = end; offset = offset }

  -- the check ended with this step, which was refused or not
  LeavesRest-decided : TellsStep s step (Some end) checked → PassesNoEnd (with_step step end offset p) rest → LeavesRest s (with_step step end offset p) rest checked
  LeavesRest-decided tells reach =
      search (rules, with_step, is_some, ok_err, answer_unique, TellsFault-none)

  -- it was accepted, and the check went on
  LeavesRest-step : (t : View) (word : Accepted) → Answers s.state step (Ok word) →
      is_last word ≡ false → Same t.state (after s.state step word) → IsTrue t.has_lost_literal ↔
      (IsTrue s.has_lost_literal ⊎ StepLoses s.state step word) →
      LeavesRest t p rest checked → LeavesRest s (with_step step end offset p) rest checked
  LeavesRest-step t word a not_last same loss later = record {
    past = search (rules, split, later_step, later.past);
    past_fault = later.past_fault;
    refused = search (rules, split, later.refused);
    only = later.only;
    lost = search (rules, split, over, later.lost);
    none_lost = later.none_lost;
    malformed = later.malformed;
  }
    where
      -- the same step decides among the later ones
      later_step : (ps : List PlacedStep) (w : Accepted) (ws : List Accepted) (ending : Ending) →
          Ends t.state (map (λ placed. placed.step) ps) ws ending → deciding_step (here ∷ ps) (w ∷ ws) ending ≡ deciding_step ps ws ending
      later_step [] w [] verified e = absurd (cc)
      later_step (x ∷ ps) w [] verified e = absurd (let bad = e.1 in cc)
      later_step ps w ws ending e = refl

      -- this word came first, and the others from the state that the step left
      split : (words : List Accepted) (ending : Ending) →
          Ends s.state (step ∷ bare_steps p) words ending → (ws : List Accepted) × (words ≡ word ∷ ws)
          × Ends t.state (bare_steps p) ws ending
      split words ending e =
          grind (arith, ok_err, answer_unique, ok_is, MatchBool-at_false, ends_same, same_sym)

      -- a literal was lost before this step, by it or after it
      over : (ws : List Accepted) → (IsTrue t.has_lost_literal ⊎ HasLost t.state (bare_steps p) ws)
          ↔ (IsTrue s.has_lost_literal ⊎ HasLost s.state (step ∷ bare_steps p) (word ∷ ws))
      over ws = search (rules, lost_same, same_sym)

-- ---- A whole proof

-- some clause is empty
pub LeavesProof-empty : (rule : Rule) (fault : Option Fault) (clauses : List Clause) (p : Proof)
    (reader : Reader) (rest : Suffix) (checked : Checked) → TellsNoStep checked →
    TellsFault fault p.fault checked → list_any is_empty clauses ≡ true →
    LeavesProof rule fault clauses p reader reader rest checked
LeavesProof-empty rule fault clauses p reader rest checked quiet tells empty = search rules

-- the steps were checked
pub LeavesProof-checked : (rule : Rule) (s : View) (clauses : List Clause) → IsLoaded rule s
    clauses → (p : Proof) (old new : Reader) (rest : Suffix) (checked : Checked) → s.is_verified ≡
    false → LeavesRest s p rest checked → LeavesProof rule None clauses p old new rest checked
LeavesProof-checked rule s clauses l p old new rest checked unverified leaves = record {
  unread = search rules;
  past = search (rules, ends);
  past_fault = search rules;
  told = record {
    unread = search rules;
    refused = search (rules, ends, leaves.refused);
    only = leaves.only;
    loss = record { lost = search (rules, loaded, ends, leaves.lost); only = leaves.none_lost };
    malformed = leaves.malformed;
  };
}
  where
    none : list_any is_empty clauses ≡ false
    none = sym l.verified ∙ unverified

    -- the clauses that were input lost none
    loaded : (words : List Accepted) → IsTrue checked.literal_lost ↔ (IsSome checked.refused
        × (IsTrue s.has_lost_literal ⊎ HasLost s.state (bare_steps p) words)) → IsTrue checked.literal_lost ↔
        (IsSome checked.refused × HasLost (start rule clauses) (bare_steps p) words)
    loaded words h = search (rules, false≢true, lost_same, same_sym)

    ends : (words : List Accepted) (ending : Ending) → Verdict rule clauses (bare_steps p) words ending → Ends s.state (bare_steps p) words ending
    ends words ending h = search (rules, ends_same, same_sym, none)

-- the formula has a fault, or memory ran out
pub fault_told : (rule : Rule) (trace : Bool) (s : View) (f : Fault) (i : Input) (p : Proof)
    (reader : Reader) (rest : Suffix) (was now : Sink) (checked : Checked) → Loads rule s (Err f)
    (formula_of i) → FailsOn a_proof (codes "formula") f (of.Formula f) was now checked → Reports
    (system_of rule) trace i p was.held now.held checked.status × LeavesProof rule
    (formula_of i).fault (formula_of i).clauses p reader reader rest checked
fault_told rule trace s f i p reader rest was now checked loads fails =
    (search (rules, (some_report rule trace i p), fails), search rules)

-- ---- A check, step by step

abbrev pub fresh_reading : Stream → ProofReading
fresh_reading s = record { stream = s; kept = None; step_end = None; stored = 0 }

-- From one moment to another what is to come has the same report after these lines, and leaves the
-- same of the step that decides.
abbrev pub SoFar : Bool → Standing → Standing → View → View → ℕ → Lines → Suffix → Suffix → Type 0
SoFar trace start now first session count written i j = ((r : Report) →
    Rest trace session.state count session.peak (now.to_come j) r →
    Rest trace first.state 0 first.peak (start.to_come i) (with_lines written r))
    × ((rest : Suffix) (checked : Checked) → LeavesRest session (now.to_come j) rest checked →
    LeavesRest first (start.to_come i) rest checked)

-- these lines were written; the rest of the report is still to come, and the step that decides
pub record Checking (trace : Bool) (start now : Standing) (first session : View) (accepted : ℕ)
    (was lines : Sink) : Type 0 where
  pub count : ℕ
  pub counts : accepted ≡ counted count
  pub written : Lines
  pub run : Along start.stream now.stream (SoFar trace start now first session count written)
  pub wrote : Writes was lines (text_of written)
  pub whole : lines.is_broken ≡ false
  pub sound : is_over session ≡ false
  pub finite : IsFinite session.state
  pub least : sum_of session.state ≤ session.peak
  pub no_failure : lines.has_failed ≡ was.has_failed

-- what has this fault, wherever that ends
IsFaulty-is : (f : Fault) (p : Proof) → IsFaulty f p → p ≡ no_step (Some f) p.fault_end
IsFaulty-is f p is = search rules

pub Checking-start : (trace : Bool) (start : Standing) (first : View) (was : Sink) →
    was.is_broken ≡ false → IsOpen first → Checking trace start start first first 0 was was
Checking-start trace start first was whole is_open = record {
  count = 0;
  counts = refl;
  written = [];
  run = Along-map _ _ _ _ (Along-none start.stream) (search rules);
  wrote = search rules;
  whole = whole;
  sound = is_open.sound;
  finite = is_open.finite;
  least = is_open.least;
  no_failure = refl;
}

-- what a call gave, and that it passed no end
abbrev pub GivesOn : Standing → Standing → Result Bool Fault → Option StepEnd → Step → Type 0
GivesOn now new result end step = Along now.stream new.stream (λ i j.
    GivesStep result end step (now.to_come i) (new.to_come j) j × PassesNoEnd (now.to_come i) j)

-- by its answer's pattern
pub step_told : (now new : Standing) (result answer : Result Bool Fault) (end : Option StepEnd)
    (s : Step) → GivesOn now new result end s → result ≡ answer → GivesOn now new answer end s
step_told now new result answer end s gives is = search rules

module _ (trace : Bool) (start now new : Standing) (first session : View) (accepted : ℕ)
    (was lines : Sink) (so_far : Checking trace start now first session accepted was lines)
    (end : Option StepEnd) (step : Step) where
  -- the report was written to its end, and what follows the step that decides is left
  abbrev pub Ended : Checked → Sink → Suffix → Suffix → Type 0
  Ended checked last i j = (r : Report) × Rest trace first.state 0 first.peak (start.to_come i) r
      × Reported checked.status was last r × LeavesRest first (start.to_come i) j checked

  -- the rest of the report that what is to come has
  ended : (checked : Checked) (last : Sink) (i j k : Suffix) (r : Report) → SoFar trace start now
      first session so_far.count so_far.written i j → Rest trace session.state so_far.count
      session.peak (now.to_come j) r → Reported checked.status lines last r → LeavesRest session (now.to_come j) k checked → Ended checked last i k
  ended checked last i j k r p rest o leaves = (
    _,
    p.0 r rest,
    search (rules, Outcome-after, so_far.wrote, so_far.whole),
    p.1 k checked leaves,
  )

  module _ (number : ℕ) (counts : number ≡ counted (so_far.count + 1))
      (gives : GivesOn now new (Ok true) end step) where
    pub Checking-step : (t : View) (last : Sink) → GoesOn trace number session t step lines last → Checking trace start new first t number was last
    Checking-step t last goes = record {
      count = so_far.count + 1;
      counts = counts;
      written = so_far.written ++ traced trace number goes.word;
      run = Along-then _ _ _ _ _ _ so_far.run gives (λ i j k m p q. (
        (λ r rest. rw append_assoc (p.0 (with_lines (traced trace number goes.word) r) (rw q.0.2
            (rw (shown_same number (so_far.count + 1) counts)
            (Rest-step _ _ _ _ _ _ _ _ goes.word t.state goes.answers goes.state so_far.least r
            goes.not_last (rw (← goes.peak) rest)))))),
        (λ left checked leaves. p.1 left checked (rw q.0.2 (LeavesRest-step session step q.0.0
            k.offset (new.to_come k) left checked t goes.word goes.answers goes.not_last
            goes.state goes.lost leaves))),
      ));
      wrote = rw (text_of-append _ _) (Writes-then _ _ _ _ _ so_far.wrote goes.wrote);
      whole = goes.whole;
      sound = goes.sound;
      finite = grind (arith, same_finite, after_finite);
      least = omega (arith, goes.peak);
      no_failure = goes.no_failure ∙ so_far.no_failure;
    }

    pub Checking-stop : (checked : Checked) (last : Sink) → Stops trace number session step lines last checked.status →
        TellsStep session step end checked → Along start.stream new.stream (Ended checked last)
    Checking-stop checked last stops tells = Along-then _ _ _ _ _ _ so_far.run gives
        (λ i j k m p q. let s = stops so_far.count k.offset q.0.0 (new.to_come k) counts
        so_far.least so_far.finite in ended checked last i j k s.0 p (rw q.0.2 s.1) s.2
        (rw q.0.2 (LeavesRest-decided _ _ _ _ _ _ _ (rw q.0.1 at tells) (rw (← q.0.2) q.1))))

  module _ (checked : Checked) (last : Sink) where
    pub Checking-end : GivesOn now new (Ok false) None step → TellsNoStep checked →
        Reported checked.status lines last (end_report None) → TellsFault None None checked → Along start.stream new.stream (Ended checked last)
    Checking-end gives quiet o tells = Along-then _ _ _ _ _ _ so_far.run gives (λ i j k m p q.
        ended checked last i j k (end_report None) p (rw q.0.1 (grind arith)) o (grind arith))

    pub Checking-fault : (f : Fault) → GivesOn now new (Err f) end step →
        FailsOn a_proof (codes "proof") f (of.Second f) lines last checked → Along start.stream new.stream (Ended checked last)
    Checking-fault OutOfMemory gives fails = Along-then _ _ _ _ _ _ so_far.run gives
        (λ i j k m p q. let some = Rest-some _ _ _ _ so_far.finite _ in
        ended checked last i j k some.0 p some.1 (fails.memory refl some.0)
        (search (rules, fails.gave_up)))
    Checking-fault f gives fails = Along-then _ _ _ _ _ _ so_far.run gives (λ i j k m p q.
        let end = (now.to_come j).fault_end in let e = IsFaulty-is f (now.to_come j) q.0.0 in
        ended checked last i j k (end_report (Some f)) p (rw e (search rules))
        (fails.told (λ e. cc)) (rw e (LeavesRest-none session (Some f) end k checked
        (fails.refused, fails.none_lost) (search (rules, fails)) (rw (← e) q.1))))

-- ---- A whole proof, from its report on

-- memory ran out before either was read
pub runs_nothing : (rule : Rule) (trace : Bool) (steps : Input → Proof) (formula proof : Reader)
    (checked : Checked) (was now : Sink) → checked ≡ checked_as NoMemory None →
    BrokeOff NoMemory was now → LeavesWriter NoMemory was now → RunsInto rule trace steps formula formula proof proof was now checked
runs_nothing rule trace steps formula proof checked was now is o writer = rw is (record {
  report = record {
    first = Seen-nothing formula;
    second = Seen-nothing proof;
    fact = λ i j s t. let some = some_report rule trace i (steps j) in
        search (rules, arith, some, TellsFault-none, unread_fault);
  };
  read_failed = search rules;
  write_failed = search rules;
  writer = writer;
})

-- what was left of a proof, and that no more than 65536 bytes were read past what was taken, say
-- how far it was read
reads_no_further : (rule : Rule) (i : Input) (k : Suffix) (p : Proof) (old new : Reader)
    (checked : Checked) → LeavesProof rule (formula_of i).fault (formula_of i).clauses p old new k
    checked → bytes_read old new + 0 ≤ k.offset + 65536 → ReadsNoFurther (system_of rule) (formula_of i) p old new
reads_no_further rule i k p old new checked leaves within = search rules

-- a reader that was fresh was read
module _ (rule : Rule) (trace : Bool) (to_come : ProofReading → Suffix → Proof)
    (steps : Input → Proof) (formula formula_new proof : Reader) (borrows : List ℕ)
    (source last : Stream) (new : Reader) (checked : Checked) (was now : Sink)
    (is : source ≡ unread_stream proof borrows) (kept : new ≡ last.reader) (all : (j : Input) →
    to_come (fresh_reading (unread_stream proof borrows)) (from_start j) ≡ steps j) where
  -- what a check did of a proof from where a reader stands
  abbrev Did : Seen formula formula_new → ProofReading → Suffix → Suffix → Type 0
  Did f x j k = (i : Input) → IsSeen f i →
      Reports (system_of rule) trace i (to_come x j) was.held now.held checked.status
      × LeavesProof rule (formula_of i).fault (formula_of i).clauses (to_come x j) x.stream.reader
      last.reader k checked × ReadsNoFurtherThanFault i formula formula_new

  -- a report by a rule is one by the rule that it is
  pub reports_run : (other : Rule) → rule ≡ other → (reader : ProofReading) → reader ≡ fresh_reading
      source → (f : Seen formula formula_new) → Along reader.stream last (Did f reader) →
      (checked.status ≡ ReadFailed → OneHasFailed formula_new new) →
      (checked.status ≡ WriteFailed → now.has_failed ≡ true) → LeavesWriter checked.status was now →
      RunsInto other trace steps formula formula_new proof new was now checked
  reports_run other same reader made f run read_failed write_failed writer =
      let fresh : ProofReading = fresh_reading (unread_stream proof borrows) in
      let Q : Suffix → Suffix → Type 0 = λ j k. Did f fresh j k
      × (bytes_read proof last.reader + j.offset ≤ k.offset + 65536) in
      let within = Along-within fresh.stream last (Did f fresh) (omega arith) (grind arith) in
      let report : AllReports other trace steps formula formula_new proof new checked was.held
      now.held = rw (kept, ← same) (record {
        first = f;
        second = Seen-run proof borrows last Q within;
        fact = λ i j s t. let seen = Seen-fact proof borrows last Q within j t in
            let did = seen.2.0 i s in
            let near = reads_no_further rule i seen.0 _ _ _ _ did.1 seen.2.1 in
            rw (← all j) (did.0, near, did.1.told, did.2);
      }) in search rules
