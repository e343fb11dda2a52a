-- Two literals of a clause in each other's place.
use Rattle.{cnf_base.specs.Literals.{Clause, has}, std.proofs.lemmas.List.Edits.length-swap}
use Rattle.std.{proofs.Common.{arith, length, refl, ℕ, ◌-◌, ◌<◌, ◌∙◌, ◌≡◌, ◌≤◌}, specs.List.swap}
use Rattle.std.proofs.lemmas.List.Sorted.{IsPermutation-swap, list_any-IsPermutation}

pub has_swapped : (c d : Clause) (a b : ℕ) → a < length c → b < length c → d ≡ swap c a b → (l : ℕ)
    → has d l ≡ has c l
has_swapped c d a b first second is l = grind (arith, list_any-IsPermutation, IsPermutation-swap)

-- twice, so that the first two are others
pub has_rewatched : (c : Clause) (from to : ℕ) → from < 2 → 2 ≤ to → to < length c → (l : ℕ)
    → has (swap (swap c 0 (1 - from)) 1 to) l ≡ has c l
has_rewatched c from to low past inside l =
    let d = swap c 0 (1 - from) in
    let len = length-swap c 0 (1 - from) in
    has_swapped d (swap d 1 to) 1 to (omega (arith, len, past, inside)) (omega (arith, len, inside))
    refl l ∙ has_swapped c d 0 (1 - from) (omega (arith, past, inside))
    (omega (arith, past, inside)) refl l

pub length_rewatched : (c : Clause) (from to : ℕ)
    → length (swap (swap c 0 (1 - from)) 1 to) ≡ length c
length_rewatched c from to = grind (arith, length-swap)
