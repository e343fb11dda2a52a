-- The rule of LRAT depends only on the sets of the live clauses.
use Rattle.cnf_base.proofs.SetLemmas.{both_pass, filter_has, has-filter, has-without, has_head}
use Rattle.cnf_base.proofs.SetLemmas.{same_back, same_symm, same_there, without_has}
use Rattle.{cnf_base.proofs.SizeLemmas.IsWithin, std.proofs.Common.{true, ℕ, ◌||◌, ◌∙◌, ◌∷◌, ◌≡◌}}
use Rattle.cnf_base.specs.Literals.{Clause, Literal, same_clause, without}
use Rattle.std.proofs.Common.{List, Option, Some, [], ap, arith, eqb, option_map, refl, rules, sym}
use Rattle.std.{proofs.lemmas.Bool.false≢true, specs.List.list_all}
use Rattle.theory.proofs.DratLemmas.Copies.{append_more, complements_within}
use Rattle.theory.{proofs.PropagationLemmas.Conflicts.conflicts_same, specs.Answers.StepAnswer}
use Rattle.theory.proofs.PropagationLemmas.Open.{alone_first, first_alone}
use Rattle.theory.specs.Lrat.{AnswersChain, AnswersGroups, AnswersLrat, ChainEnd, Group, LratStep}
use Rattle.theory.specs.Lrat.{SameAt, SameClauses, chain, chain_refusal, deletion_refusal}
use Rattle.theory.specs.Lrat.{group_refusal, groups_refusal, is_left_out, is_unsettled, look_at}
use Rattle.theory.specs.{Lrat.{with_candidate, with_clause, without_id, without_ids}, Sets.SameSet}
use Rattle.theory.specs.{Propagation.{Live, open_literals}, declared.refusal.Refusal.Refusal}

pub same_set_from : (c d : Clause) → same_clause c d ≡ true → SameSet c d
same_set_from c d same l = search (rules, both_pass, same_there, same_back)

pub same_set_more : (first second : List Literal) (m : Literal) → SameSet first second
    → SameSet (m ∷ first) (m ∷ second)
same_set_more first second m same l = ap (λ b. eqb m l || b) (same l)

-- ---- What is left

open_there : (first second : List Literal) (c d : Clause) → SameSet first second → SameSet c d
    → IsWithin (open_literals first c) (open_literals second d)
open_there first second c d same_ls same_c l h = search (rules, filter_has, has-filter)

open_same : (first second : List Literal) (c d : Clause) → SameSet first second → SameSet c d
    → SameSet (open_literals first c) (open_literals second d)
open_same first second c d same_ls same_c l = search (rules, both_pass, open_there)

-- whether the first literal of a list is the only one, and which it is, depends on the set
alone_there : (k m : Literal) (xs ys : List Literal) → SameSet (k ∷ xs) (m ∷ ys)
    → list_all (λ l. eqb l k) xs ≡ true → (list_all (λ l. eqb l m) ys ≡ true) × (k ≡ m)
alone_there k m xs ys same all =
    let only = (first_alone k xs all).1 in
    (alone_first m ys k (λ l h. only l (same l ∙ h)), sym (only m (same m ∙ has_head m ys)))

module _ (j : ℕ) (go_on : Literal → ChainEnd) where
  left_same : (xs ys : List Literal) → SameSet xs ys
      → look_at j (Some xs) go_on ≡ look_at j (Some ys) go_on
  left_same [] (m ∷ ys) same = absurd (false≢true (same m ∙ has_head m ys))
  left_same (k ∷ xs) [] same = absurd (false≢true (sym (same k) ∙ has_head k xs))
  left_same (k ∷ xs) (m ∷ ys) same =
      let there = alone_there k m xs ys same in
      let back = alone_there m k ys xs (λ l. sym (same l)) in grind arith
  left_same xs ys same = refl

  -- ---- Walks

  looks_same : (first second : List Literal) → SameSet first second → (a b : Option Clause)
      → SameAt a b → look_at j (option_map (open_literals first) a) go_on
      ≡ look_at j (option_map (open_literals second) b) go_on
  looks_same first second h a b h2 = search (rules, left_same, open_same, same_set_from)

module _ (live other : Live) (same_clauses : SameClauses live other) where
  -- from one list, a walk has one end
  chain_is : (hints : List ℕ) (ls : List Literal) → chain live ls hints ≡ chain other ls hints
  chain_is [] ls = refl
  chain_is (k ∷ hints) ls = grind (arith, looks_same, (chain_is hints))

  -- from lists that are the same set, a walk is refused alike
  pub chain_alike : (r : Refusal) (hints : List ℕ) (first second : List Literal)
      → SameSet first second
      → chain_refusal r (chain live first hints) ≡ chain_refusal r (chain other second hints)
  chain_alike r [] first second same = search (rules, conflicts_same)
  chain_alike r (k ∷ hints) first second same =
      let later = λ (l : Literal). chain_alike r hints (l ∷ first) (l ∷ second) (search rules) in
      let clash = conflicts_same first second same in
      let look = looks_same k (λ l. chain other (l ∷ second) hints) first second same _ _
      (same_clauses.at k) in grind arith

  -- ---- Candidates

  module _ (ls : List Literal) (pivot : Literal) where
    candidate_there : (c d : Clause) → same_clause c d ≡ true
        → IsWithin (with_candidate ls c pivot) (with_candidate ls d pivot)
    candidate_there c d same = append_more ls _ _ (complements_within (without c _) (without d _)
        (grind (arith, without_has, has-without, same_there)))

    candidate_same : (c d : Clause) → same_clause c d ≡ true
        → SameSet (with_candidate ls c pivot) (with_candidate ls d pivot)
    candidate_same c d same l = search (rules, both_pass, candidate_there, same_symm)

    group_same : (earlier : List ℕ) (group : Group) (a b : Option Clause) → SameAt a b
        → group_refusal live ls pivot earlier group a ≡ group_refusal other ls pivot earlier group b
    group_same earlier group a b h = grind (arith, same_set_from, chain_alike, candidate_same)

    groups_same : (groups : List Group) (earlier : List ℕ)
        → groups_refusal live ls pivot earlier groups ≡ groups_refusal other ls pivot earlier groups
    groups_same [] earlier = refl
    groups_same (group ∷ groups) earlier =
        search (rules, group_same, (groups_same groups (group.candidate ∷ earlier)))

    unsettled_same : (a b : Option Clause) → SameAt a b
        → is_unsettled ls pivot a ≡ is_unsettled ls pivot b
    unsettled_same a b h = grind (arith, same_set_from, conflicts_same, candidate_same)

    left_out_same : (groups : List Group) (k : ℕ)
        → is_left_out live ls pivot groups k ≡ is_left_out other ls pivot groups k
    left_out_same groups k = search (rules, unsettled_same)

    -- ---- Answers

    groups_answer : (groups : List Group) (refusal : Option Refusal) (answer : StepAnswer)
        → AnswersGroups live ls pivot groups refusal answer
        → AnswersGroups other ls pivot groups refusal answer
    groups_answer groups refusal answer h = search (rules, left_out_same)

  chain_answer : (c : List Literal) (groups : List Group) (end : ChainEnd) (answer : StepAnswer)
      → AnswersChain live c groups end answer → AnswersChain other c groups end answer
  chain_answer c groups end answer h = grind (arith, groups_same, groups_answer)

-- ---- Deletions, and what is alive

pub with_same : (first second : Live) (id : ℕ) (c d : Clause) → SameClauses first second
    → same_clause c d ≡ true → SameClauses (with_clause first id c) (with_clause second id d)
with_same first second id c d same h = search rules

without_same : (first second : Live) (id : ℕ) → SameClauses first second
    → SameClauses (without_id first id) (without_id second id)
without_same first second id same = search rules

pub without_all_same : (ids : List ℕ) (first second : Live) → SameClauses first second
    → SameClauses (without_ids first ids) (without_ids second ids)
without_all_same [] first second same = same
without_all_same (id ∷ ids) first second same = without_all_same ids _ _ (search rules)

deletion_same : (ids : List ℕ) (first second : Live) → SameClauses first second
    → deletion_refusal first ids ≡ deletion_refusal second ids
deletion_same [] first second same = refl
deletion_same (id ∷ ids) first second same =
    let later = deletion_same ids (without_id first id) _ (without_same first second id same) in
    let now = same.at id in grind arith

pub lrat_same : (first second : Live) (top : ℕ) (step : LratStep) (answer : StepAnswer)
    → SameClauses first second → AnswersLrat (record { live = first; top = top }) step answer
    → AnswersLrat (record { live = second; top = top }) step answer
lrat_same first second top step answer same a =
    search (rules, chain_is, chain_answer, deletion_same)

pub ruleset sets_count = (lrat_same, with_same, without_all_same)
