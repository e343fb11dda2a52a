-- A walk along a chain.
use Rattle.clause_index.{proofs.IndexLemmas.Chains.first_in, specs.Code.Chains.{AreLinked, link_at}}
use Rattle.{clause_index.specs.declared.link.Link.Link, std.proofs.Common.{◌∙◌, ◌∷◌, ◌≡◌, ◌≢◌, ◌≤◌}}
use Rattle.cnf_base.{proofs.SetLemmas.{has_cases, has_head, has_tail}, specs.Literals.has}
use Rattle.std.proofs.Common.{List, [], ap, arith, drop, false, length, refl, sym, true, ℕ, ◌+◌}
use Rattle.std.proofs.lemmas.{Bool.false≢true, Grind.common_steps}

-- what is left of a chain from this slot on, after so many steps: a slot that is sought is in it
pub record IsLeft (links : List Link) (chain : List ℕ) (slot step at : ℕ) : Type 0 where
  pub left : List ℕ
  pub linked : AreLinked links at left
  pub within : (s : ℕ) → has left s ≡ true → has chain s ≡ true
  pub there : has left slot ≡ true
  pub few : step + length left ≤ length chain

module _ (links : List Link) (chain : List ℕ) (slot step at : ℕ) (so_far : IsLeft links chain slot step at) where
  pub at_in : has chain at ≡ true
  at_in = so_far.within at (by_left so_far.left so_far.linked so_far.there)
    where
      by_left : (xs : List ℕ) → AreLinked links at xs → has xs slot ≡ true → has xs at ≡ true
      by_left [] linked there = absurd (false≢true there)
      by_left (x ∷ xs) linked there = ap (has (x ∷ xs)) linked.0 ∙ has_head x xs

  pub steps_on : at ≢ slot → IsLeft links chain slot (step + 1) (link_at links at).next
  steps_on ne = record {
    left = drop 1 so_far.left;
    linked = grind arith;
    within = grind (arith, has_tail);
    there = grind (arith, has_cases);
    few = grind arith;
  }

  pub not_over : length chain ≤ step → ⊥
  not_over over = grind (arith, common_steps)

-- ---- A search

-- what is left of a chain from this slot on, after so many steps: the others of it are tested
pub record IsSearched (links : List Link) (chain : List ℕ) (Tested : ℕ → Type 0) (step at : ℕ) : Type 0 where
  pub left : List ℕ
  pub linked : AreLinked links at left
  pub within : (s : ℕ) → has left s ≡ true → has chain s ≡ true
  pub few : step + length left ≤ length chain
  pub past : (s : ℕ) → has chain s ≡ true → has left s ≡ false → Tested s

module _ (links : List Link) (chain : List ℕ) (Tested : ℕ → Type 0) (step at : ℕ) (so_far : IsSearched links chain Tested step at) where
  pub found_in : at ≢ 4294967295 → has chain at ≡ true
  found_in some = grind (arith, first_in)

  pub searches_on : at ≢ 4294967295 → Tested at
      → IsSearched links chain Tested (step + 1) (link_at links at).next
  searches_on some tested = record {
    left = drop 1 so_far.left;
    linked = grind arith;
    within = grind (arith, has_tail);
    few = grind arith;
    past = grind (arith, has_cases);
  }

  pub search_ends : at ≡ 4294967295 → ((s : ℕ) → has chain s ≡ true → s ≢ 4294967295) → (s : ℕ)
      → has chain s ≡ true → Tested s
  search_ends over low s h = so_far.past s h (by_left so_far.left so_far.linked so_far.within)
    where
      by_left : (xs : List ℕ) → AreLinked links at xs → ((s : ℕ) → has xs s ≡ true → has chain s ≡ true)
          → has xs s ≡ false
      by_left [] linked within = refl
      by_left (x ∷ xs) linked within = absurd (low x (within x (has_head x xs)) (sym linked.0 ∙ over))

  pub search_over : length chain ≤ step → (s : ℕ) → has chain s ≡ true → Tested s
  search_over over s h = grind (arith, common_steps)

pub ruleset walk_facts = (at_in, steps_on)
