-- The clauses that a literal touches, by their slots and by their identifiers.
use Rattle.{clause_db.specs.Store.IsTouchedAt, std.proofs.lemmas.List.Sorted.list_any-IsPermutation}
use Rattle.cnf_base.specs.Literals.{Clause, Literal, complement, has}
use Rattle.live_clauses.proofs.ClausesLemmas.{Distinct.rising_mapped, Joined.{holder, joined_is}}
use Rattle.live_clauses.specs.Code.LiveClauses.{AreNoted, IsPaired, joined}
use Rattle.live_clauses.specs.LiveClauses.{Holds, LiveClausesState}
use Rattle.std.proofs.Common.{List, Some, [], arith, map, rules, slice_index, true, ℕ, ◌∙◌, ◌∷◌}
use Rattle.std.{proofs.{Common.◌≡◌, lemmas.Bool.or_left}, specs.FinMap.FinMap}
use Rattle.std.specs.{List.Sorted.{IsPermutation, IsSorted, IsStrictlyIncreasing}, Ordering.nat_cmp}
use Rattle.theory.{proofs.RenamingLemmas.Clauses.{has_mapped, mapped_has}, specs.Propagation.Live}
use Rattle.std.specs.FinMap as maps

-- those of the clauses that the literal touches, in ascending order
pub record AreTouched (live : Live) (l : Literal) (found : List ℕ) : Type 0 where
  pub ascending : IsStrictlyIncreasing found
  pub each : (k : ℕ) → has found k ≡ true → Holds live (complement l) k
  pub all : (k : ℕ) → Holds live (complement l) k → has found k ≡ true

module _ (ids : FinMap nat_cmp ℕ) (store : FinMap nat_cmp Clause) (state : LiveClausesState) (view : joined ids store ≡ state.live) (paired : IsPaired ids store)
    (by_slot : List ℕ) (noted : AreNoted by_slot ids) (l : Literal) (slots found : List ℕ)
    (each : (s : ℕ) → has slots s ≡ true → IsTouchedAt store (l ∷ []) s) (all : (s : ℕ) → IsTouchedAt store (l ∷ []) s → has slots s ≡ true)
    (moved : IsPermutation (map (λ s. slice_index by_slot s) slots) found) where
  owner_of : (s : ℕ) → has slots s ≡ true → (k : ℕ) × (maps.get ids k ≡ Some s)
  owner_of s member = search rules

  found_has : (k : ℕ) → has (map (λ s. slice_index by_slot s) slots) k ≡ has found k
  found_has k = search (rules, list_any-IsPermutation)

  touched_each : (k : ℕ) → has found k ≡ true → Holds (maps.get state.live) (complement l) k
  touched_each k member =
      let w = mapped_has _ slots k (found_has k ∙ member) in
      grind (arith, joined_is, owner_of)

  touched_all : (k : ℕ) → Holds (maps.get state.live) (complement l) k → has found k ≡ true
  touched_all k holds =
      let w = holder ids store state view paired (complement l) k holds in
      let member = has_mapped (λ s. slice_index by_slot s) slots w.0 (search (rules, or_left)) in
      search (rules, found_has)

  touched_rise : IsStrictlyIncreasing slots → IsSorted nat_cmp found → IsStrictlyIncreasing found
  touched_rise rising sorted =
      rising_mapped _ slots found (λ r s h h2 h3. search rules) rising moved sorted

  pub are_touched : IsStrictlyIncreasing slots → IsSorted nat_cmp found → AreTouched (maps.get state.live) l found
  are_touched rising sorted = search (rules, arith, touched_rise, touched_each, touched_all)
