-- The hash of a clause, through a walk over it.
use Rattle.clause_index.specs.Hashes.{hash, mix, mixed_sum, sum_mixed}
use Rattle.cnf_base.proofs.{SizeLemmas.{IsWithin, sum_push, sum_same}, WalkLemmas.take_is}
use Rattle.cnf_base.specs.{Code.Literals.sum_distinct, Literals.{Clause, Literal, has}}
use Rattle.std.proofs.Common.{[], arith, false, get_or, length, refl, take, true, ℕ, ◌%◌, ◌++◌, ◌+◌}
use Rattle.std.proofs.{Common.{◌/◌, ◌<◌, ◌^◌, ◌∷◌, ◌≡◌, ◌≤◌}, lemmas.List.take_all}

-- ---- One more literal at the end

sum_mixed_is : (seed : ℕ) (c : Clause) → sum_mixed seed c ≡ sum_distinct (mix seed) c
sum_mixed_is seed [] = refl
sum_mixed_is seed (l ∷ c) = grind arith

pub mixed_none : (seed : ℕ) → mixed_sum seed [] ≡ 0
unfolding mixed_sum
mixed_none seed = refl

mixed_same : (seed : ℕ) (c d : Clause) → IsWithin c d → IsWithin d c
    → mixed_sum seed c ≡ mixed_sum seed d
unfolding mixed_sum
mixed_same seed c d there back = grind (arith, sum_mixed_is, sum_same)

-- clauses that are the same set have one hash
pub hash_same : (seed : ℕ) (c d : Clause) → IsWithin c d → IsWithin d c → hash seed c ≡ hash seed d
unfolding hash
hash_same seed c d there back = grind (arith, mixed_same)

-- a walk over a whole clause that summed its different mixed literals
pub hash_whole : (seed : ℕ) (c : Clause) (i sum h : ℕ) → sum ≡ mixed_sum seed (take i c)
    → length c ≤ i → h ≡ sum / 2 ^ 32 → h ≡ hash seed c
unfolding hash
hash_whole seed c i sum h sum_is whole is = cc (take_all i c whole)

pub mixed_push : (seed : ℕ) (c : Clause) (x : Literal) → has c x ≡ false
    → mixed_sum seed (c ++ x ∷ []) ≡ (mixed_sum seed c + mix seed x) % 2 ^ 64
unfolding mixed_sum
mixed_push seed c x new = grind (arith, sum_mixed_is, sum_push)

pub mixed_again : (seed : ℕ) (c : Clause) (x : Literal) → has c x ≡ true
    → mixed_sum seed (c ++ x ∷ []) ≡ mixed_sum seed c
unfolding mixed_sum
mixed_again seed c x old = grind (arith, sum_mixed_is, sum_push)

-- ---- One turn of a walk: x is the literal at i

module _ (c : Clause) (i : ℕ) (inside : i < length c) (x : Literal) (is : x ≡ get_or c i x) where
  pub mixed_more : (seed : ℕ) → has (take i c) x ≡ false
      → mixed_sum seed (take (i + 1) c) ≡ (mixed_sum seed (take i c) + mix seed x) % 2 ^ 64
  mixed_more seed new = cc (take_is c i inside x is, mixed_push seed (take i c) x new)

  pub mixed_kept : (seed : ℕ) → has (take i c) x ≡ true
      → mixed_sum seed (take (i + 1) c) ≡ mixed_sum seed (take i c)
  mixed_kept seed old = cc (take_is c i inside x is, mixed_again seed (take i c) x old)
