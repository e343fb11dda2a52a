-- Lists of different numbers.
use Rattle.cnf_base.proofs.SetLemmas.{has_cases, has_head, has_tail}
use Rattle.std.proofs.Common.{List, [], arith, eqb, false, map, nat_eq, subst, true, ℕ, ◌∷◌, ◌≡◌}
use Rattle.std.proofs.lemmas.Map.Keys.{IsDistinct-IsPermutation, IsDistinct-from_sorted}
use Rattle.std.proofs.lemmas.Map.Keys.{IsStrictlyIncreasing-from_distinct}
use Rattle.std.proofs.lemmas.{List.Sorted.IsNonDecreasingBy-from_sort, Bool.Decides.nat_tests}
use Rattle.std.proofs.lemmas.{Map.Keys.sorted_from_strictly_increasing, Bool.false_from_ne_true}
use Rattle.std.specs.List.Sorted.{IsPermutation, IsSorted, IsStrictlyIncreasing, IsStrictlySortedBy}
use Rattle.{std.specs.Ordering.eq_by_cmp, std.specs.Ordering.nat_cmp, cnf_base.specs.Literals.has}
use Rattle.{theory.proofs.RenamingLemmas.Clauses.mapped_has, std.specs.List.IsDistinct}

pub distinct_tail : (k : ℕ) (ks : List ℕ) → IsDistinct nat_eq (k ∷ ks) → IsDistinct nat_eq ks
unfolding IsDistinct
distinct_tail k ks h = h.1

pub distinct_head : (k : ℕ) (ks : List ℕ) → IsDistinct nat_eq (k ∷ ks) → has ks k ≡ true → ⊥
unfolding IsDistinct
distinct_head k [] h member = grind arith
distinct_head k (j ∷ ks) h member =
    grind (arith, nat_tests, has_cases, (distinct_head k ks (h.0.1, h.1.1)))

pub distinct_more : (k : ℕ) (ks : List ℕ) → has ks k ≡ false → IsDistinct nat_eq ks → IsDistinct nat_eq (k ∷ ks)
unfolding IsDistinct
distinct_more k [] absent h = grind arith
distinct_more k (j ∷ ks) absent h =
    grind (arith, nat_tests, has_head, has_tail, (distinct_more k ks))

tie : (j k : ℕ) → eq_by_cmp nat_cmp k j ≡ nat_eq k j
tie j k = grind arith

pub distinct_from_sorted : (keys : List ℕ) → IsStrictlySortedBy nat_cmp keys → IsDistinct nat_eq keys
unfolding IsDistinct
distinct_from_sorted keys sorted = subst (λ e. IsDistinct e keys) (λ i k j. tie j k i)
    (IsDistinct-from_sorted nat_cmp keys sorted)

-- ---- Numbers that are found one for each of other numbers

module _ (f : ℕ → ℕ) where
  distinct_mapped : (ks : List ℕ) → ((j k : ℕ) → has ks j ≡ true → has ks k ≡ true → f j ≡ f k → j ≡ k) → IsDistinct nat_eq ks → IsDistinct nat_eq (map f ks)
  distinct_mapped [] one_to_one different = different
  distinct_mapped (k ∷ ks) one_to_one different =
      distinct_more (f k) (map f ks) (false_from_ne_true (has (map f ks) (f k)) (λ member.
      let w = mapped_has f ks (f k) member in
      distinct_head k ks different (subst (λ i. has ks i ≡ true) (one_to_one w.0 k (has_tail k ks w.0 w.1) (has_head k ks) w.2) w.1)))
      (distinct_mapped ks (λ i j left right. one_to_one i j (has_tail k ks i left) (has_tail k ks j right)) (distinct_tail k ks different))

  -- where they differ too, they rise once they are sorted
  pub rising_mapped : (ks found : List ℕ) → ((j k : ℕ) → has ks j ≡ true → has ks k ≡ true → f j ≡ f k → j ≡ k) → IsStrictlyIncreasing ks → IsPermutation (map f ks) found → IsSorted nat_cmp found → IsStrictlyIncreasing found
  rising_mapped ks found one_to_one rising moved sorted =
      let different = distinct_mapped ks one_to_one (distinct_from_sorted ks (sorted_from_strictly_increasing ks rising)) in
      IsStrictlyIncreasing-from_distinct found (IsNonDecreasingBy-from_sort (λ n. n) found sorted)
      (subst (λ e. IsDistinct e found) (λ i j k. same_test j k i) (IsDistinct-IsPermutation nat_eq turned (map f ks) found moved different))
    where
      turned : (j k : ℕ) → nat_eq j k ≡ nat_eq k j
      turned j k = grind (arith, nat_tests)

      same_test : (j k : ℕ) → nat_eq j k ≡ eqb j k
      same_test j k = grind (arith, nat_tests)
