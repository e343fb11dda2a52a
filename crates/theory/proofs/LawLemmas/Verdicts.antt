-- A proof has one verdict, which depends on the clauses alone, and a verified formula has no model.
use Rattle.{cnf_base.specs.Literals.Clause, proofs.specs.Steps.Step, std.proofs.Common.{Err, List}}
use Rattle.std.proofs.Common.{Ok, [], arith, inl, inr, refl, rules, slice_get, suc, true, zero, ◌∷◌}
use Rattle.std.{proofs.{Common.◌≡◌, lemmas.Bool.{cases_Bool, false≢true}}, specs.List.list_any}
use Rattle.theory.proofs.LawLemmas.Existence.{after_finite, some_answer, start_finite}
use Rattle.theory.proofs.LawLemmas.Rules.{after_same, answer_unique, answers_same, keeps, refutes}
use Rattle.theory.proofs.{LawLemmas.Rules.started, LratLemmas.Steps.{ok_err, ok_is}}
use Rattle.theory.specs.{Answers.StepAnswer, Models.HasModel, Rules.{Answers, IsFinite}}
use Rattle.theory.specs.{Rules.{IsSatisfiable, Rule, Same, State, after, start}, Verdicts.Ending}
use Rattle.theory.specs.Verdicts.{Ends, Verdict, is_empty, is_last, no_empty_clause, refused}
use Rattle.theory.specs.{Verdicts.verified, declared.accepted.Accepted.Accepted}
use Rattle.theory.specs.declared.{accepted.Accepted.TheVariants.Empty, refusal.Refusal.Refusal}

-- ---- The same clauses

pub ends_same : (steps : List Step) (words : List Accepted) (ending : Ending) (first second : State)
    → Same first second → Ends first steps words ending → Ends second steps words ending
ends_same [] words ending first second same e = search rules
ends_same (step ∷ steps) [] ending first second same e = search (rules, answers_same)
ends_same (step ∷ steps) (word ∷ words) ending first second same e =
    let later = ends_same steps words ending (after first step word) (after second step word)
    (after_same first second step word same) in search (rules, answers_same)

-- ---- At most one verdict

err_is : (first second : Refusal) → ◌≡◌ {A = StepAnswer} (Err first) (Err second) → first ≡ second
err_is first second e = cc

ends_unique : (steps : List Step) (s : State) (first second : List Accepted) (ending other : Ending)
    → Ends s steps first ending → Ends s steps second other → (first ≡ second) × (ending ≡ other)
ends_unique (step ∷ steps) s (w ∷ ws) (x ∷ xs) ending other a b =
    let later = ends_unique steps (after s step w) ws xs ending other in
    grind (arith, ok_is, answer_unique, cases_Bool)
ends_unique steps s first second ending other a b =
    search (rules, err_is, ok_err, answer_unique)

pub verdict_unique : (rule : Rule) (formula : List Clause) (steps : List Step)
    (first second : List Accepted) (ending other : Ending) →
    Verdict rule formula steps first ending → Verdict rule formula steps second other
    → (first ≡ second) × (ending ≡ other)
verdict_unique rule formula steps first second ending other a b =
    search (rules, cases_Bool, ends_unique)

-- ---- A verdict

abbrev HasEnding : State → List Step → Type 0
HasEnding state steps =
    (words : List Accepted) × (ending : Ending) × Ends state steps words ending

pub some_ending : (steps : List Step) (state : State) → IsFinite state
    → (words : List Accepted) × (ending : Ending) × Ends state steps words ending
some_ending [] state b = ([], no_empty_clause, refl)
some_ending (step ∷ steps) state b =
    let (given, told) = some_answer state step b in
    elim given as (λ answer. Answers state step answer → HasEnding state (step ∷ steps)) [
      | Err r ↦ λ a. ([], refused r, (r, refl, a))
      | Ok word ↦ λ a.
          let w = some_ending steps _ (after_finite state step word b) in
          elim (cases_Bool (is_last word)) [
            | inl e ↦ (word ∷ [], verified, (a, rw e (refl, refl)))
            | inr e ↦ (word ∷ w.0, w.1, (a, rw e w.2))
          ]
    ] told

pub some_verdict : (rule : Rule) (formula : List Clause) (steps : List Step)
    → (words : List Accepted) × (ending : Ending) × Verdict rule formula steps words ending
some_verdict rule formula steps =
    let rest = some_ending steps (start rule formula) (start_finite rule formula) in
    elim (cases_Bool (list_any is_empty formula)) [
      | inl e ↦ ([], verified, rw e (refl, refl))
      | inr e ↦ (rest.0, rest.1, rw e rest.2)
    ]

-- ---- A verified formula has no model

last_is_empty : (word : Accepted) → is_last word ≡ true → word ≡ Empty
last_is_empty word h = search rules

ends_sound : (steps : List Step) (s : State) (words : List Accepted) → Ends s steps words verified
    → IsSatisfiable s → ⊥
ends_sound (step ∷ steps) s (word ∷ words) e has_model =
    let later = ends_sound steps (after s step word) words in let kept = keeps s step word in
    grind (arith, refutes, last_is_empty)
ends_sound steps s words h h2 = search rules

empty_formula : (formula : List Clause) → list_any is_empty formula ≡ true
    → HasModel (slice_get formula) → ⊥
empty_formula [] h m = false≢true h
empty_formula ([] ∷ formula) h m = false≢true (m.1 zero [] refl)
empty_formula ((l ∷ c) ∷ formula) h m = empty_formula formula h (m.0, λ k d at. m.1 (suc k) d at)

pub verdict_sound : (rule : Rule) (formula : List Clause) (steps : List Step) (words : List Accepted) → Verdict rule formula steps words verified → ¬ HasModel (slice_get formula)
verdict_sound rule formula steps words verdict m =
    search (rules, cases_Bool, empty_formula, ends_sound, started)
