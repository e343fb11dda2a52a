-- Members of lists, by their places.
use Rattle.cnf_base.{proofs.SetLemmas.has_cases, specs.Literals.{complement, has, variable}}
use Rattle.std.proofs.Common.{List, [], add-one, arith, get_or, get_or-take, inl, inr, length}
use Rattle.std.proofs.Common.{length-take, map, nat_eq, refl, rules, take, true, ℕ, ◌+◌, ◌<◌, ◌∷◌}
use Rattle.std.proofs.{Common.{◌≡◌, ◌⊎◌}, lemmas.Bool.{false≢true, Decides.nat_tests}}
use Rattle.std.{proofs.lemmas.List.{get_or-map, length-map, Folds.list_any_at}, specs.List.list_any}

pub place_of : (ls : List ℕ) (l : ℕ) → has ls l ≡ true → (i : ℕ) × (i < length ls)
    × (get_or ls i 0 ≡ l)
place_of [] l h = absurd (false≢true h)
place_of (k ∷ ks) l h =
    elim (has_cases k ks l h) [
      | inl e ↦ (0, omega arith, e)
      | inr g ↦ let w = place_of ks l g in (w.0 + 1, omega arith, rw add-one w.2)
    ]

pub has_place : (ls : List ℕ) (i : ℕ) → i < length ls → has ls (get_or ls i 0) ≡ true
has_place ls i h = grind (arith, list_any_at)

pub place_in_front : (ls : List ℕ) (n l : ℕ) → has (take n ls) l ≡ true → (i : ℕ) × (i < n)
    × (i < length ls) × (get_or ls i 0 ≡ l)
place_in_front ls n l h = grind (arith, place_of, length-take, get_or-take)

pub has_front : (ls : List ℕ) (n i : ℕ) → i < n → i < length ls
    → has (take n ls) (get_or ls i 0) ≡ true
has_front ls n i low h = grind (arith, get_or-take, has_place, length-take)

pub place_of_variable : (ls : List ℕ) (v : ℕ) → has (map variable ls) v ≡ true → (i : ℕ)
    × (i < length ls) × (variable (get_or ls i 0) ≡ v)
place_of_variable ls v h = grind (arith, place_of, length-map, get_or-map)

pub has_variable : (ls : List ℕ) (i : ℕ) → i < length ls
    → has (map variable ls) (variable (get_or ls i 0)) ≡ true
has_variable ls i h =
    let there = has_place (map variable ls) i (omega (arith, length-map ls variable)) in
    cc (get_or-map variable ls i 0 0 h)

-- a member's variable
pub has_mapped : (ls : List ℕ) (l : ℕ) → has ls l ≡ true → has (map variable ls) (variable l) ≡ true
has_mapped ls l h = grind (arith, place_of, has_variable)

-- the test of a key against those of a set, the other way round
pub has_any : (ls : List ℕ) (l : ℕ) → has ls l ≡ list_any (nat_eq l) ls
has_any [] l = refl
has_any (k ∷ ks) l = search rules

-- two literals of one variable
pub same_variable : (k l : ℕ) → variable k ≡ variable l → (k ≡ l) ⊎ (k ≡ complement l)
unfolding complement
same_variable k l e = grind (arith, nat_tests)

pub variable-complement : (l : ℕ) → variable (complement l) ≡ variable l
unfolding complement
variable-complement l = grind (arith, nat_tests)
