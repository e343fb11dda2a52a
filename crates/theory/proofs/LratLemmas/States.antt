-- States with the same clauses, and what the clauses of a formula leave.
use Rattle.cnf_base.proofs.SetLemmas.{any_from, any_some, same_itself, same_symm, same_there}
use Rattle.{cnf_base.specs.Literals.{Clause, same_clause}, std.proofs.Common.{List, Some, [], cond}}
use Rattle.std.proofs.Common.{eqb, length, ne_eqb, rules, slice_get, subst, suc, true, ℕ, ◌++◌, ◌+◌}
use Rattle.{std.proofs.Common.{◌∷◌, ◌≡◌}, theory.proofs.DratLemmas.Copies.covers_of}
use Rattle.theory.proofs.LratLemmas.SameSets.{lrat_same, with_same, without_all_same}
use Rattle.theory.specs.{Answers.StepAnswer, Drat.SameLive, Lrat.{AnswersLrat, LratState, LratStep}}
use Rattle.theory.specs.{Lrat.{SameClauses, after_lrat, numbered, with_clause}, Models.Assignment}
use Rattle.theory.specs.{Models.{HasModel, Models, holds, satisfies}, Propagation.Live}

-- ---- States with the same clauses

pub record SameState (first second : LratState) : Type 0 where
  pub live : SameClauses first.live second.live
  pub top : first.top ≡ second.top

pub answers_same : (first second : LratState) (step : LratStep) (answer : StepAnswer)
    → SameState first second → AnswersLrat first step answer → AnswersLrat second step answer
answers_same first second step answer same a =
    subst (λ t. AnswersLrat (record { live = second.live; top = t }) step answer) same.top
    (lrat_same first.live second.live first.top step answer same.live a)

pub after_same : (first second : LratState) (step : LratStep) → SameState first second
    → SameState (after_lrat first step) (after_lrat second step)
after_same first second step h = search (rules, with_same, same_itself, without_all_same)

-- ---- Models

satisfies_same : (v : Assignment) (c d : Clause) → same_clause c d ≡ true → satisfies v c ≡ true
    → satisfies v d ≡ true
satisfies_same v c d same h =
    let w = any_some (holds v) c h in
    any_from (holds v) d w.0 (same_there c d same w.0 w.1) w.2

models_same : (v : Assignment) (first second : Live) → SameClauses first second → Models v second
    → Models v first
models_same v first second same models k c at = search (rules, satisfies_same, same_symm)

pub has_model_same : (first second : Live) → SameClauses first second → HasModel second
    → HasModel first
has_model_same first second same m = (m.0, models_same m.0 first second same m.1)

pub has_model_copies : (first second : List Clause) → SameLive first second
    → HasModel (slice_get second) → HasModel (slice_get first)
has_model_copies first second same m = search (rules, covers_of, satisfies_same, same_symm)

-- ---- The formula

get_push : (formula : List Clause) (c : Clause) (k : ℕ) → slice_get (formula ++ c ∷ []) k
    ≡ cond (eqb k (length formula)) (Some c) (slice_get formula k)
get_push (d ∷ formula) c (suc k) = search (rules, slice_get, (get_push formula c k))
get_push formula c k = search rules

-- the next clause of a formula
pub numbered_push : (formula : List Clause) (c : Clause) (k : ℕ)
    → with_clause (numbered formula) (length formula + 1) c k ≡ numbered (formula ++ c ∷ []) k
numbered_push formula c k = search (rules, ne_eqb, slice_get, get_push)
