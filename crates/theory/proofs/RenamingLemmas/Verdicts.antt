-- States, steps and proofs under other names.
use Rattle.{cnf_base.proofs.MemberLemmas.variable-complement, theory.specs.Propagation.Live}
use Rattle.cnf_base.specs.Literals.{Clause, Literal, complement, variable}
use Rattle.proofs.specs.{Steps.{Step, clause_part}, declared.step_buf.StepKind.StepKind}
use Rattle.std.proofs.Common.{List, Ok, [], ap, arith, map, nat_abs, refl, rules, slice_get, suc}
use Rattle.std.{proofs.Common.{zero, ℕ, ◌%◌, ◌*◌, ◌+◌, ◌∷◌, ◌≡◌}, specs.List.list_any}
use Rattle.std.proofs.lemmas.{Bool.false≢true, List.length-map, Option.{none-some, slice_get-map}}
use Rattle.theory.proofs.{LawLemmas.Truth.take_off_from, RenamingLemmas.Drat.drat_step_mapped}
use Rattle.theory.proofs.RenamingLemmas.Clauses.{Renames, drop_has, take_has}
use Rattle.theory.proofs.RenamingLemmas.Drat.{IsOf, after_mapped, drat_answers_mapped, drat_mapped}
use Rattle.theory.proofs.RenamingLemmas.Lrat.{lrat_answers_mapped, without_all_mapped}
use Rattle.theory.specs.{Answers.StepAnswer, Renaming.{ending_renamed, renamed, step_renamed}}
use Rattle.theory.specs.Drat.{AnswersDrat, DratStep, after_drat, drat_step_of, take_off}
use Rattle.theory.specs.{Laws.VerdictsKeepUnderNames, Verdicts.{Ending, Ends, is_empty}}
use Rattle.theory.specs.Lrat.{AnswersLrat, LratState, after_lrat, step_of, without_ids}
use Rattle.theory.specs.Renaming.{AreUndone, IsRenamed, IsUndone, StepsAreUndone, answer_renamed}
use Rattle.theory.specs.Rules.{Answers, Rule, State, after, by_copies, by_ids, start}
use Rattle.theory.specs.declared.{accepted.Accepted.Accepted, drat_rules.DratRules.DratRules}
use Rattle.proofs.specs.declared.step_buf.StepKind.TheVariants as kinds

-- ---- Names

pub renamed_complement : (name : ℕ → ℕ) (l : Literal) → complement (renamed name l)
    ≡ renamed name (complement l)
unfolding complement
renamed_complement name l = search rules

variable_renamed : (n l : ℕ) → variable (2 * n + l % 2) ≡ n
variable_renamed n l = grind arith

sign_renamed : (n l : ℕ) → (2 * n + l % 2) % 2 ≡ l % 2
sign_renamed n l = grind arith

whole_literal : (l : ℕ) → 2 * variable l + l % 2 ≡ l
whole_literal l = grind arith

ruleset number_steps = (variable_renamed, sign_renamed, whole_literal)

-- literals whose names can be told
abbrev IsTold : (name back : ℕ → ℕ) → Literal → Type 0
IsTold name back l = back (name (variable l)) ≡ variable l

pub renames : (name back : ℕ → ℕ) → Renames (renamed name) (renamed back) (IsTold name back)
renames name back = search (rules, renamed_complement, variable-complement, number_steps)

-- ---- One step

module _ (name back : ℕ → ℕ) where
  abbrev there : Literal → Literal
  there = renamed name

  of_step : (rules : DratRules) (kind : StepKind) (lits : List Literal) → IsUndone name back lits
      → IsOf (IsTold name back) (drat_step_of rules kind lits)
  of_step rules kind lits h = grind (arith, clause_part, take_has, drop_has, false≢true)

  lrat_there : (s t : LratState) (kind : StepKind) (step : Step) (answer : StepAnswer)
      → IsRenamed name back (by_ids s) (by_ids t) → IsUndone name back step.lits
      → AnswersLrat s (step_of kind step.id step.lits step.hints) answer
      → AnswersLrat t (step_of kind step.id (map there step.lits) step.hints)
      (answer_renamed there answer)
  lrat_there s t kind step answer r told a =
      let alike = lrat_answers_mapped _ _ _ (renames name back) s.live t.live s.top r.0 r.2
      (step_of kind step.id step.lits step.hints) answer in grind arith

  module _ (rules : DratRules) (live : List Clause) (undone : AreUndone name back (slice_get live))
      (step : Step) (told : IsUndone name back step.lits) where
    same_step : drat_step_of rules step.kind (map there step.lits)
        ≡ drat_mapped there (drat_step_of rules step.kind step.lits)
    same_step = drat_step_mapped _ _ _ (renames name back) (renamed_complement back) rules step.kind
        step.lits told

    drat_there : (answer : StepAnswer)
        → AnswersDrat rules live (drat_step_of rules step.kind step.lits) answer
        → AnswersDrat rules (map (map there) live)
        (drat_step_of rules step.kind (map there step.lits)) (answer_renamed there answer)
    drat_there answer a =
        let of = of_step rules step.kind step.lits told in rw same_step (drat_answers_mapped _ _ _
        (renames name back) (renamed_complement back) live undone rules _ answer of a)

    after_there : (word : Accepted) → after_drat (map (map there) live)
        (drat_step_of rules step.kind (map there step.lits)) word
        ≡ map (map there) (after_drat live (drat_step_of rules step.kind step.lits) word)
    after_there word =
        let of = of_step rules step.kind step.lits told in rw same_step (after_mapped _ _ _
        (renames name back) (renamed_complement back) live _ word undone of)

  pub step_answers : (first second : State) (step : Step) (answer : StepAnswer) → IsRenamed name back first second → IsUndone name back step.lits → Answers first step answer →
      Answers second (step_renamed (renamed name) step) (answer_renamed (renamed name) answer)
  step_answers (by_ids s) (by_ids t) step answer r told a =
      lrat_there s t step.kind step answer r told a
  step_answers (by_copies rules live) (by_copies rules_too other) step answer r told a =
      rw (r.0, r.1) (drat_there rules live r.2 step told answer a)
  step_answers first second step answer r told a = absurd r

  -- ---- What it leaves

  taken_undone : (c : Clause) (live : List Clause) → AreUndone name back (slice_get live)
      → AreUndone name back (slice_get (take_off c live))
  taken_undone c live undone k d at = let w = take_off_from c live k d at in undone w.0 d w.1

  added_undone : (c : Clause) (live : List Clause) → IsUndone name back c
      → AreUndone name back (slice_get live) → AreUndone name back (slice_get (c ∷ live))
  added_undone c live h h2 = search rules

  drat_undone : (live : List Clause) (step : DratStep) (word : Accepted)
      → IsOf (IsTold name back) step → AreUndone name back (slice_get live)
      → AreUndone name back (slice_get (after_drat live step word))
  drat_undone live step word h h2 = search (rules, added_undone, taken_undone)

  without_undone : (ids : List ℕ) (live : Live) → AreUndone name back live
      → AreUndone name back (without_ids live ids)
  without_undone [] live undone = undone
  without_undone (id ∷ ids) live undone = without_undone ids _ (search rules)

  pub step_leaves : (first second : State) (step : Step) (word : Accepted)
      → IsRenamed name back first second → IsUndone name back step.lits →
      IsRenamed name back (after first step word) (after second (step_renamed (renamed name) step)
      word)
  step_leaves (by_ids s) (by_ids t) step word r told = by step.kind
    where
      by : (kind : StepKind) → IsRenamed name back
          (by_ids (after_lrat s (step_of kind step.id step.lits step.hints)))
          (by_ids (after_lrat t (step_of kind step.id (map there step.lits) step.hints)))
      by kinds.Add = search rules
      by kinds.Delete =
          let ids = map nat_abs step.hints in
          let same = without_all_mapped _ _ _ (renames name back) ids s.live t.live r.0 in
          (same, r.1, without_undone ids s.live r.2)
  step_leaves (by_copies rules live) (by_copies rules_too other) step word r told = (
    r.0,
    rw (r.0, r.1) (after_there rules live r.2 step told word),
    drat_undone live _ word (of_step rules step.kind step.lits told) r.2,
  )
  step_leaves first second step word r told = absurd r

  -- ---- A proof

  ends_renamed : (steps : List Step) (words : List Accepted) (ending : Ending)
      (first second : State) → IsRenamed name back first second → StepsAreUndone name back steps
      → Ends first steps words ending
      → Ends second (map (step_renamed there) steps) words (ending_renamed there ending)
  ends_renamed [] [] ending first second r told e = ap (ending_renamed there) e
  ends_renamed [] (word ∷ words) ending first second r told e = absurd e
  ends_renamed (step ∷ steps) [] ending first second r told (reason, is, a) =
      (_, ap (ending_renamed _) is, step_answers first second step _ r (told zero step refl) a)
  ends_renamed (step ∷ steps) (word ∷ words) ending first second r told e =
      let now = step_answers first second step (Ok word) r (told zero step refl) in
      let leaves = step_leaves first second step word r (told zero step refl) in
      let later = ends_renamed steps words ending _ _ leaves (λ k. told (suc k)) in grind arith

  empties : (formula : List Clause) → list_any is_empty (map (map (renamed name)) formula)
      ≡ list_any is_empty formula
  empties [] = refl
  empties (c ∷ formula) = search (rules, (empties formula))

  started : (rule : Rule) (formula : List Clause) → AreUndone name back (slice_get formula)
      → IsRenamed name back (start rule formula) (start rule (map (map (renamed name)) formula))
  started rule formula h = search (rules, length-map, slice_get-map, none-some)

pub verdict_renamed : VerdictsKeepUnderNames
verdict_renamed name back rule formula steps words ending undone told v =
    let same = empties name back formula in let first = started name back rule formula undone in
    let ends = ends_renamed name back steps words ending _ _ first told in search rules

pub ruleset step_renames = (step_answers, step_leaves)
