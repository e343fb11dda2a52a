-- What the other lemmas use of literals.
use Rattle.{cnf_base.specs.Literals.{Literal, complement}, std.proofs.Common.{arith, bit_and}}
use Rattle.std.proofs.{Common.{bit_xor, ℕ, ◌%◌, ◌<◌, ◌≡◌, ◌≢◌, ◌≤◌}, lemmas.Bool.Decides.nat_tests}
use Rattle.std.{proofs.lemmas.Nat.and_mask, specs.Int.Bits.xor_add_and}

pub complement-complement : (l : Literal) → complement (complement l) ≡ l
unfolding complement
complement-complement l = grind (arith, nat_tests)

pub complement-other : (l : Literal) → complement l ≢ l
unfolding complement
complement-other l = grind (arith, nat_tests)

-- the lowest bit is the sign
pub xor_one : (l : ℕ) → bit_xor l 1 ≡ complement l
unfolding complement
xor_one l =
    let sum = xor_add_and l 1 in
    let low : bit_and l 1 ≡ l % 2 = and_mask l 1 in grind (arith, nat_tests, sum, low)

-- the complement of a literal is one
pub complement_range : (l : ℕ) → 2 ≤ l → l < 536870912 → (2 ≤ complement l)
    × (complement l < 536870912)
unfolding complement
complement_range l low high = grind arith

pub ruleset xor_steps = (xor_one, complement_range)
