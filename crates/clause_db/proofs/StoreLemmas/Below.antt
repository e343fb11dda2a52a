-- The clauses in the slots below a number, as they are passed one after the other.
use Rattle.cnf_base.{proofs.MapLemmas.{inserted_is, same_maps}, specs.Literals.Clause}
use Rattle.std.proofs.Common.{IsSome, None, Some, arith, cond, lt-ltb, nat_cmp, nat_lt, ℕ, ◌+◌, ◌<◌}
use Rattle.std.{proofs.{Common.{◌∙◌, ◌≡◌, ◌≢◌, ◌≤◌}, lemmas.Bool.cases_lt}, specs.FinMap.FinMap}
use Rattle.std.specs.FinMap as maps

abbrev pub below : ℕ → FinMap nat_cmp Clause → FinMap nat_cmp Clause
below n m = maps.retain_keys m (λ s. nat_lt s n)

below_get : (n : ℕ) (m : FinMap nat_cmp Clause) (s : ℕ)
    → maps.get (below n m) s ≡ cond (nat_lt s n) (maps.get m s) None
below_get n m s = grind (arith, maps.get-retain_keys)

there : (n : ℕ) (m : FinMap nat_cmp Clause) (s : ℕ) → s < n → maps.get (below n m) s ≡ maps.get m s
there n m s low = cc (below_get n m s, lt-ltb s n low)

pub gone : (n : ℕ) (m : FinMap nat_cmp Clause) (s : ℕ) → n ≤ s → maps.get (below n m) s ≡ None
gone n m s high = grind (arith, below_get)

-- none is below the first one, and all are below a number that is above them
pub below_none : (m : FinMap nat_cmp Clause) → below 0 m ≡ maps.empty
below_none m = grind (arith, same_maps, gone, maps.get-empty)

pub below_all : (n : ℕ) (m : FinMap nat_cmp Clause) → ((s : ℕ) → IsSome (maps.get m s) → s < n)
    → below n m ≡ m
below_all n m low = grind (arith, same_maps, there, gone)

past : (s n : ℕ) → n ≤ s → s ≢ n → n + 1 ≤ s
past s n le ne = omega arith

-- a slot more, with a clause or without
pub below_next : (n : ℕ) (m : FinMap nat_cmp Clause) (c : Clause) → maps.get m n ≡ Some c
    → below (n + 1) m ≡ maps.insert (below n m) n c
below_next n m c is = inserted_is (below n m) (below (n + 1) m) n c (there (n + 1) m n (omega arith) ∙ is) (grind (arith, cases_lt, there, gone, past))

pub below_same : (n : ℕ) (m : FinMap nat_cmp Clause) → maps.get m n ≡ None
    → below (n + 1) m ≡ below n m
below_same n m none = grind (arith, same_maps, there, gone)
