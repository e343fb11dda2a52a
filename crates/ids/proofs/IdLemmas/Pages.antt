-- How many entries of a page are bound.
use Rattle.{ids.specs.Code.Ids.{Counts, bound_from, counted_as}, std.proofs.Common.{List, [], ap}}
use Rattle.std.proofs.Common.{arith, cond, eq-eqb, get_or, get_or-set_other, get_or-set_same, inl}
use Rattle.std.proofs.Common.{inr, length, ne_eqb, refl, set, subst, suc, sym, zero, ℕ, ◌*◌, ◌+◌}
use Rattle.std.proofs.{Common.{◌<◌, ◌∙◌, ◌≡◌, ◌≢◌, ◌≤◌}, lemmas.Bool.{cases_eq, Decides.nat_tests}}
use Rattle.std.proofs.lemmas.Grind.{common_steps}

counted_as-most : (entry : ℕ) → counted_as entry ≤ 1
counted_as-most entry = grind arith

pub counted_as-some : (entry : ℕ) → entry ≢ 0 → counted_as entry ≡ 1
counted_as-some entry some = ap (λ b. cond b 0 1) (ne_eqb entry 0 some)

pub counted_as-none : (entry : ℕ) → entry ≡ 0 → counted_as entry ≡ 0
counted_as-none entry none = ap (λ b. cond b 0 1) (eq-eqb entry 0 none)

bound_from-suc : (xs : List ℕ) (s n : ℕ) → bound_from xs s (suc n) ≡ bound_from xs s n + counted_as (get_or xs (s + n) 0)
unfolding bound_from
bound_from-suc xs s n = refl

bound_from-zero : (xs : List ℕ) (s : ℕ) → bound_from xs s 0 ≡ 0
unfolding bound_from
bound_from-zero xs s = refl

pub bound_from-same : (xs ys : List ℕ) (s n : ℕ) → ((k : ℕ) → s ≤ k → k < s + n → get_or xs k 0 ≡ get_or ys k 0) → bound_from xs s n ≡ bound_from ys s n
bound_from-same xs ys s zero same = bound_from-zero xs s ∙ sym (bound_from-zero ys s)
bound_from-same xs ys s (suc n) same =
    let rest = bound_from-same xs ys s n (λ k low high. same k low (omega arith)) in
    grind (arith, bound_from-suc)

pub bound_from-most : (xs : List ℕ) (s n : ℕ) → bound_from xs s n ≤ n
bound_from-most xs s zero = let e = bound_from-zero xs s in omega arith
bound_from-most xs s (suc n) =
    grind (arith, (bound_from-most xs s n), counted_as-most, bound_from-suc)

-- where none is bound, all entries are 0
pub bound_from-none : (xs : List ℕ) (s n : ℕ) → bound_from xs s n ≡ 0 → (k : ℕ) → k < n → get_or xs (s + k) 0 ≡ 0
bound_from-none xs s zero none k low = absurd (let wrong : ⊥ = omega arith in wrong)
bound_from-none xs s (suc n) none k low =
    let a = bound_from-suc xs s n in
    elim (cases_eq k n) [
      | inl is ↦ grind (arith, cases_eq, counted_as-some)
      | inr apart ↦ bound_from-none xs s n (omega arith) k (omega arith)
    ]

-- a write of one entry
pub bound_from-set : (xs : List ℕ) (s n k v : ℕ) → k < n → s + k < length xs → bound_from (set xs (s + k) v) s n + counted_as (get_or xs (s + k) 0) ≡ bound_from xs s n + counted_as v
bound_from-set xs s zero k v low within = absurd (let wrong : ⊥ = omega arith in wrong)
bound_from-set xs s (suc n) k v low within =
    let a = bound_from-suc xs s n in
    let b = bound_from-suc (set xs (s + k) v) s n in
    elim (cases_eq k n) [
      | inl is ↦ grind (arith, bound_from-same, get_or-set_other, get_or-set_same)
      | inr apart ↦
          grind (arith, (bound_from-set xs s n k v (omega arith) within), get_or-set_other)
    ]

-- ---- The counts of all pages

pub counts_same : (entries live after live_after : List ℕ) → Counts entries live → ((k : ℕ) → get_or after k 0 ≡ get_or entries k 0) → ((k : ℕ) → get_or live_after k 0 ≡ get_or live k 0) → Counts after live_after
counts_same entries live after live_after counts same same_live i = grind (arith, bound_from-same)

pub counts_most : (entries live : List ℕ) → Counts entries live → (i : ℕ) → get_or live i 0 ≤ 1024
counts_most entries live counts i = let most = bound_from-most entries (1024 * i) 1024 in let is = counts i in omega arith

pub counts_none : (entries live : List ℕ) → Counts entries live → (i : ℕ) → get_or live i 0 ≡ 0 → (k : ℕ) → k < 1024 → get_or entries (1024 * i + k) 0 ≡ 0
counts_none entries live counts i none = bound_from-none entries (1024 * i) 1024 (sym (counts i) ∙ none)

-- an entry that is bound is counted
pub counts_some : (entries live : List ℕ) → Counts entries live → (i k : ℕ) → k < 1024 → get_or entries (1024 * i + k) 0 ≢ 0 → 0 < get_or live i 0
counts_some entries live counts i k low some = grind (arith, cases_eq, counts_none)

module _ (entries live : List ℕ) (counts : Counts entries live) (i k v count : ℕ) (low : k < 1024) (in_live : i < length live) (in_places : 1024 * i + k < length entries) where
  written_here : count + counted_as (get_or entries (1024 * i + k) 0) ≡ get_or live i 0 + counted_as v → Counts (set entries (1024 * i + k) v) (set live i count)
  written_here moves j =
      grind (arith, cases_eq, get_or-set_same, bound_from-set, get_or-set_other, bound_from-same)

  pub counts_written : (at : ℕ) → at ≡ 1024 * i + k → count + counted_as (get_or entries (1024 * i + k) 0) ≡ get_or live i 0 + counted_as v → Counts (set entries at v) (set live i count)
  counts_written at is moves = subst (λ n. Counts (set entries n v) (set live i count)) (sym is) (written_here moves)

pub counts_empty : (entries live : List ℕ) → entries ≡ [] → live ≡ [] → Counts entries live
counts_empty entries live none none_live i =
    ap (λ xs. get_or xs i 0) none_live ∙ sym (none_bound (1024 * i) 1024) ∙ ap (λ xs. bound_from xs (1024 * i) 1024) (sym none)
  where
    none_bound : (s n : ℕ) → bound_from [] s n ≡ 0
    none_bound s zero = bound_from-zero [] s
    none_bound s (suc n) = bound_from-suc [] s n ∙ ap (λ m. m + 0) (none_bound s n)

-- what is said of pages that are read or written
pub ruleset page_steps = (common_steps, nat_tests, counts_none, counts_empty, counts_written)
