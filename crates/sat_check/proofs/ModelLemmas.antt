-- A formula is judged by the literals of a model; the report of it, and what a verified one says.
use Rattle.cnf_base.proofs.{SetLemmas.{any_from, any_some}, StreamLemmas.{Along-map, Along-then}}
use Rattle.cnf_base.specs.{Code.Seen.OfSeen, declared.fault.Fault.{Fault, TheVariants.OutOfMemory}}
use Rattle.cnf_base.specs.{Literals.{Clause, Literal, complement, has}, Seen.OfBothSeen}
use Rattle.cnf_base.specs.Stream.{Along, Input, Reader, Stream, Suffix, bytes_read, unread_stream}
use Rattle.dimacs.{proofs.OffsetLemmas.ends_of-length, specs.Claim.{IsConsistent, claim_of}}
use Rattle.dimacs.specs.{Claim.IsClaim, Reading.{FormulaReading, clauses_to_come, ends_to_come}}
use Rattle.dimacs.specs.Formula.{Body, Formula, ends_at, ends_of, formula_at, formula_of}
use Rattle.report.specs.{Lines.a_model, declared.status.Status.{Status, TheVariants.Verified}}
use Rattle.sat_check.proofs.FormulaLemmas.{FaultAfter, FaultLeft, Gave, NonePassed, Opens, Reads}
use Rattle.sat_check.proofs.FormulaLemmas.{Reads-clause, Reads-done, Reads-fault, Reads-start}
use Rattle.sat_check.proofs.FormulaLemmas.{Unopened, claim_consistent, fault_left, later_left}
use Rattle.sat_check.proofs.FormulaLemmas.{seen_map, seen_nothing, seen_within}
use Rattle.sat_check.proofs.OutcomeLemmas.{FailsOn, Held, Reported, written_model}
use Rattle.sat_check.specs.{Code.FormulaReach.LeavesFault, ModelReport.{meets, model_report}}
use Rattle.sat_check.specs.Code.Judging.{Judges, LeavesUnmet, ReadsToUnmet, judged_report, unmet_in}
use Rattle.sat_check.specs.{FormulaReach.ReadsNoFurtherThanFault, declared.checked.Checked.Checked}
use Rattle.sat_check.specs.ModelReport.{ChecksModel, ReadsFormulaNoFurther, Satisfies}
use Rattle.sat_check.specs.ModelReport.{TellsModelFault, TellsUnmet, claim_report, first_unmet}
use Rattle.{sat_check.specs.{Reach.TellsFault, Report.Outcome}, writers.specs.Lines.Sink}
use Rattle.sat_check.specs.declared.judgement.Judgement.{Judgement, TheVariants.{Met, Unmet}}
use Rattle.std.proofs.Common.{Err, List, None, Ok, Result, Some, [], arith, codes, false, length}
use Rattle.std.proofs.Common.{refl, rules, slice_get, suc, true, ℕ, ◌%◌, ◌*◌, ◌++◌, ◌+◌, ◌-◌, ◌/◌}
use Rattle.std.{proofs.Common.{◌<◌, ◌∷◌, ◌≡◌, ◌≤◌}, specs.Prelude.{IfOk, IsTrue, ◌==◌}}
use Rattle.std.proofs.lemmas.{Bool.Decides.nat_tests, List.length_push, Option.slice_get-get_or}
use Rattle.{std.proofs.lemmas.Option.none-some, theory.specs.Models.{Assignment, HasModel, holds}}
use Rattle.sat_check.specs.declared.input_fault.InputFault.TheVariants as of

-- ---- A formula is judged by listed literals, clause by clause

module _ (listed : List Literal) where
  -- after clauses that are met, the first that isn't is one of those that follow
  first_unmet-append : (k : ℕ) (cs ds : List Clause) → first_unmet k listed cs ≡ None →
      first_unmet k listed (cs ++ ds) ≡ first_unmet (k + length cs) listed ds
  first_unmet-append k [] ds h = search rules
  first_unmet-append k (c ∷ cs) ds h = search (rules, (first_unmet-append (k + 1) cs ds))

  -- it is one of them
  unmet_bound : (k : ℕ) (cs : List Clause) (m : ℕ) → first_unmet k listed cs ≡ Some m → (k ≤ m) × (m < k + length cs)
  unmet_bound k [] m h = absurd (none-some m h)
  unmet_bound k (c ∷ cs) m h = search (rules, arith, (unmet_bound (k + 1) cs m))

  -- the first one that isn't met wasn't passed
  abbrev pub UnmetLeft : FormulaReading → Suffix → Suffix → Type 0
  UnmetLeft r i = LeavesUnmet listed (clauses_to_come r i).clauses (ends_to_come r i)

  -- nor was it after clauses that are met, where no end of the others was
  not_passed : (read : List Clause) (old : FormulaReading) (i k : Suffix) → first_unmet 1 listed read ≡ None → NonePassed old read i k → UnmetLeft old i k
  not_passed read old i k met passed m offset unmet at = let later = passed.0.clauses in
      let least = unmet_bound (1 + length read) later m (grind (arith, first_unmet-append)) in
      later_left read old i k _ offset passed (omega (arith, least)) at

  -- what is found of the clauses that are to come, and that no more was read than the first that
  -- isn't met, nor than the token at fault
  abbrev pub Judged : FormulaReading → Stream → Result Judgement Fault → Type 0
  Judged r last result = Along r.stream last (λ i j.
      Judges listed result (clauses_to_come r i).clauses (clauses_to_come r i).fault
      × UnmetLeft r i j × FaultLeft r i j)

-- from one moment to another so many clauses were read, and are met
pub record Judging (listed : List Literal) (old now : FormulaReading) (met : ℕ) : Type 0 where
  pub clauses : List Clause
  pub reads : Reads old now clauses
  pub all : first_unmet 1 listed clauses ≡ None
  pub count : met ≡ length clauses

pub judging_start : (listed : List Literal) (r : FormulaReading) → r.complete ≡ 0 → Judging listed r r 0
judging_start listed r none = grind (arith, Reads-start)

module _ (listed : List Literal) (old now new : FormulaReading) (met : ℕ)
    (so_far : Judging listed old now met) (c : Clause) where
  pub Judging-clause : Gave now new (Ok true) c → meets listed c ≡ true →
      new.complete ≡ now.complete + 1 → new.header ≡ now.header → Judging listed old new (met + 1)
  Judging-clause gives is count header =
      let reads = Reads-clause old now new so_far.clauses so_far.reads c gives count header in
      search (rules, arith, reads, first_unmet-append, length_push, so_far.all, so_far.count)

  pub Judging-unmet : Gave now new (Ok true) c → meets listed c ≡ false →
      Judged listed old new.stream (Ok (Unmet (met + 1)))
  Judging-unmet gives is = Along-then _ _ _ _ _ _ so_far.reads.run gives (λ i j k m p q. (
    search (rules, arith, first_unmet-append),
    not_passed listed so_far.clauses old i k so_far.all (_, _, p, q.1.1),
    fault_left so_far.clauses old i k (_, _, p, q.1.1),
  ))

  pub Judging-done : Gave now new (Ok false) c → Judged listed old new.stream (Ok (Met met))
  Judging-done gives =
      Along-map _ _ _ _ (Reads-done old now new so_far.clauses so_far.reads c gives)
      (λ i j m e. search (rules, e.0, so_far.all, so_far.count, not_passed, fault_left))

  pub Judging-fault : (f : Fault) (result : Result Judgement Fault) → result ≡ Err f →
      Gave now new (Err f) c → Judged listed old new.stream result
  Judging-fault f result is gives =
      rw is (Along-map _ _ _ _ (Reads-fault old now new so_far.clauses so_far.reads c f gives)
      (λ i j m e. search (rules, by, not_passed, fault_left)))
    where
      by : (f : Fault) (b : Body) → FaultAfter so_far.clauses f b → Judges listed (Err f) b.clauses b.fault
      by f b h = search rules

-- ---- A whole formula, judged

abbrev pub JudgesFormula : List Literal → Result Judgement Fault → Formula → Type 0
JudgesFormula listed result f = Judges listed result f.clauses f.fault

abbrev pub AllJudges : List Literal → Reader → Reader → Result Judgement Fault → Type 0
AllJudges listed left new result = OfSeen left new (λ i. JudgesFormula listed result (formula_of i)
    × ReadsToUnmet listed i left new × ReadsNoFurtherThanFault i left new)

-- nothing was read
pub judges_refused : (listed : List Literal) (left new : Reader) (result : Result Judgement Fault) → left ≡ new → result ≡ Err OutOfMemory → AllJudges listed left new result
judges_refused listed left new result same is = search (rules, arith, seen_nothing)

module _ (listed : List Literal) (left : Reader) (borrows : List ℕ) (source : Stream)
    (is : source ≡ unread_stream left borrows) (last : Stream) (new : Reader)
    (kept : new ≡ last.reader) where
  -- what was found of a formula, and what is left of it
  abbrev Leaves : Result Judgement Fault → Formula → List ℕ → Suffix → Type 0
  Leaves result x ends j = JudgesFormula listed result x
      × LeavesUnmet listed x.clauses ends j × LeavesFault x.clauses ends j

  all_judges : (result : Result Judgement Fault) → Along source last (λ i j. Leaves result
      (formula_at source.place i) (ends_at source.place i) j) → AllJudges listed left new result
  all_judges result run = seen_map left new _ _ (seen_within left borrows source last new is kept
      (λ p i j. Leaves result (formula_at p i) (ends_at p i) j) run) (search (rules, arith))

  -- the header has a fault
  pub judges_fault : (f : Fault) → Unopened source last f → AllJudges listed left new (Err f)
  judges_fault f run = all_judges (Err f) (grind (arith, none-some))

  -- the clauses were judged
  pub judges_body : (r : FormulaReading) (result : Result Judgement Fault) → Opens source r → Judged listed r last result → AllJudges listed left new result
  judges_body r result opens body = all_judges result
      (Along-then _ _ _ _ _ _ opens body (λ i j k m e q. rw e.1 (rw e.0 q)))

-- ---- Literals that are the same set meet the same clauses

meets_same : (xs ys : List Literal) → ((l : Literal) → has xs l ≡ has ys l) → (c : Clause) → meets xs c ≡ meets ys c
meets_same xs ys same c = grind arith

first_unmet_same : (k : ℕ) (xs ys : List Literal) → ((l : Literal) → has xs l ≡ has ys l) → (cs : List Clause) → first_unmet k xs cs ≡ first_unmet k ys cs
first_unmet_same k xs ys same [] = refl
first_unmet_same k xs ys same (c ∷ cs) =
    search (rules, meets_same, (first_unmet_same (k + 1) xs ys same cs))

-- ---- What was judged

module _ (listed : List Literal) (j : Judgement) (f : Formula)
    (judges : JudgesFormula listed (Ok j) f) where
  -- the report of a formula that was judged so
  pub judged_as : judged_report j ≡ claim_report (Ok listed) f
  judged_as = search rules

  -- and the first clause that isn't met is the one that it has
  pub judged_unmet : unmet_in j ≡ first_unmet 1 listed f.clauses
  judged_unmet = search rules

-- the formula has this fault
pub formula_fault : (listed : List Literal) (f : Formula) (e : Fault) (was now : Sink)
    (checked : Checked) → JudgesFormula listed (Err e) f → FailsOn a_model (codes "formula") e (of.Formula e) was now checked →
    Reported checked.status was now (claim_report (Ok listed) f) × TellsFault f.fault None checked
formula_fault listed f e was now checked judges fails = (search rules, search rules)

-- ---- What a verified model says

-- each clause is met where none is the first that isn't
all_met : (k : ℕ) (listed : List Literal) (cs : List Clause) → first_unmet k listed cs ≡ None → (i : ℕ) (c : Clause) → slice_get cs i ≡ Some c → IsTrue (meets listed c)
all_met k listed [] h i c at = search rules
all_met k listed (d ∷ cs) h i c at = search (rules, (all_met (k + 1) listed cs))

-- and none is where each is
none_unmet : (k : ℕ) (listed : List Literal) (cs : List Clause) → ((i : ℕ) (c : Clause) → slice_get cs i ≡ Some c → IsTrue (meets listed c)) → first_unmet k listed cs ≡ None
none_unmet k listed [] all = refl
none_unmet k listed (c ∷ cs) all =
    search (rules, (all 0 c refl), (none_unmet (k + 1) listed cs (λ i d at. all (suc i) d at)))

-- the report of a verified model comes only where its claim meets every clause, and the formula has
-- no fault
pub verified_satisfied : (claim : Result (List Literal) Fault) (f : Formula) →
    (claim_report claim f).status ≡ Verified → IfOk claim IsConsistent → Satisfies claim f.clauses × (f.fault ≡ None)
verified_satisfied claim f h h2 = search (rules, all_met)

-- Consistent literals give an assignment: what is listed is true, and no other variable is.
abbrev pub assigned : List Literal → Assignment
assigned listed v = has listed (2 * v)

odd_half : (l : Literal) → (l % 2 == 0) ≡ false → 2 * (l / 2) ≡ complement l
unfolding complement
odd_half l h = grind (arith, nat_tests)

-- under it each listed literal is true
pub listed_holds : (listed : List Literal) → IsConsistent listed → (l : Literal) → has listed l ≡ true → holds (assigned listed) l ≡ true
unfolding holds
listed_holds listed consistent l h = search (rules, odd_half)

-- so a clause with a listed literal is satisfied, and the formula has a model
satisfied_model : (claim : Result (List Literal) Fault) (clauses : List Clause) → Satisfies claim clauses → HasModel (slice_get clauses)
satisfied_model claim clauses s = (
  assigned s.listed,
  λ k c at.
      grind (arith, (any_some _ c (s.met k c at)), any_from, listed_holds),
)

-- all that is promised of a check of a model
checks_model : (i j : Input) (old new : Held) (status : Status) → Outcome status old new (model_report i j) → ChecksModel i j old new status
checks_model i j old new status o =
    search (rules, said, none_unmet, satisfied_model, written_model)
  where
    said : (model_report i j).status ≡ Verified → Satisfies (claim_of j) (formula_of i).clauses × ((formula_of i).fault ≡ None)
    said is = verified_satisfied (claim_of j) (formula_of i) is (claim_consistent j)

-- what a run made of the inputs that it saw, and what it told of them
abbrev pub Made : Reader → Reader → Checked → Held → Held → Input → Input → Type 0
Made formula formula_new checked old new i j = Outcome checked.status old new (model_report i j)
    × (checked.status ≡ Verified → IfOk (claim_of j) IsConsistent)
    × ReadsFormulaNoFurther (claim_of j) i formula formula_new
    × TellsModelFault (claim_of j) (formula_of i) checked

-- and by all that was seen of the formula and of the output
pub both_check_model : (formula formula_new output output_new : Reader) (checked : Checked)
    (old new first last : Held) → old ≡ first → new ≡ last → OfBothSeen formula formula_new output
    output_new (Made formula formula_new checked old new) →
    OfBothSeen formula formula_new output output_new (λ i j. ChecksModel i j first last checked.status
    × ReadsFormulaNoFurther (claim_of j) i formula formula_new
    × TellsModelFault (claim_of j) (formula_of i) checked)
both_check_model formula formula_new output output_new checked old new first last before after
    both = rw (← before, ← after) (record {
      first = both.first;
      second = both.second;
      fact = λ i j s t. let x = both.fact i j s t in (checks_model _ _ _ _ _ x.0, x.2, x.3);
    })

-- ---- How far the formula was read, and what is told of it

-- how far a formula was read of which the claim's literals are judged
reads_no_further : (listed : List Literal) (i : Input) (old new : Reader) → ReadsToUnmet listed i
    old new → (k : ℕ) → first_unmet 1 listed (formula_of i).clauses ≡ Some k → (offset : ℕ) ×
    (slice_get (ends_of i) (k - 1) ≡ Some offset) × (bytes_read old new ≤ offset + 65536)
reads_no_further listed i old new reads k unmet =
    let at = slice_get-get_or (ends_of i) (k - 1) 0 (search (rules, unmet_bound, ends_of-length)) in
    (_, at, reads k _ unmet at)

-- the output has this fault, so that the formula is left
pub output_fault : (i j : Input) (reader : Reader) (e : Fault) (was now : Sink)
    (checked : Checked) → IsClaim (Err e) (claim_of j) → FailsOn a_model (codes "output") e
    (of.Second e) was now checked → Made reader reader checked was.held now.held i j
output_fault i j r e was now checked is fails =
    let reads = λ (ls : List Literal). reads_no_further ls i r r (search rules) in
    (search rules, λ v. absurd (search rules), search (rules, reads), search rules)

-- a model that was claimed is no fault, and its literals are the claim's
module _ (model : List Literal) (claim : Result (List Literal) Fault)
    (same : IsClaim (Ok model) claim) where
  claimed_report : (f : Formula) → claim_report (Ok model) f ≡ claim_report claim f
  claimed_report f = search (rules, first_unmet_same)

  claimed_consistent : IsConsistent model → IfOk claim IsConsistent
  claimed_consistent consistent = search rules

  claimed_tells : (f : Formula) (checked : Checked) → TellsFault f.fault None checked → TellsUnmet model f.clauses checked → TellsModelFault claim f checked
  claimed_tells f checked tells unmet = search (rules, first_unmet_same)

  formula_needed : (i : Input) (old new : Reader) → ReadsToUnmet model i old new → ReadsNoFurtherThanFault i old new → ReadsFormulaNoFurther claim i old new
  formula_needed i old new reads fault = record {
    unread = search rules;
    past = λ listed k is unmet. let same = rw is at same in
        reads_no_further listed i old new (search (rules, first_unmet_same)) k unmet;
    fault = fault;
  }

pub model_made : (model : List Literal) (i j : Input) (old new : Reader) (was now : Sink)
    (checked : Checked) → IsClaim (Ok model) (claim_of j) → IsConsistent model → Reported
    checked.status was now (claim_report (Ok model) (formula_of i)) → ReadsToUnmet model i old new →
    TellsFault (formula_of i).fault None checked → TellsUnmet model (formula_of i).clauses checked →
    ReadsNoFurtherThanFault i old new → Made old new checked was.held now.held i j
model_made model i j old new was now checked same consistent o reads tells unmet fault = (
  grind (arith, claimed_report),
  λ _. claimed_consistent model _ same consistent,
  formula_needed model _ same i old new reads fault,
  claimed_tells model _ same _ checked tells unmet,
)
