-- Hashes of clauses as sets.
use Rattle.std.specs.Prelude.{ℕ, ◌+◌, ◌*◌, ◌/◌, ◌%◌, ◌^◌, bit_xor, [], ◌∷◌, if◌then◌else◌}
use Rattle.cnf_base.specs.Literals.{Literal, Clause, has}

-- a literal spread over the words, by a seed that is added to its product with an odd word, modulo
-- 2^64: then twice an exclusive or with its own high bits and a product, so that sums of few literals
-- differ in their upper halves
unfoldable pub mix : ℕ → Literal → ℕ
mix seed l =
    let x = ((l * 11400714819323198485) % 2 ^ 64 + seed) % 2 ^ 64 in
    let y = (bit_xor x (x / 2 ^ 30) * 13787848793156543929) % 2 ^ 64 in
    (bit_xor y (y / 2 ^ 27) * 10723151780598845931) % 2 ^ 64

-- the sum of the mixed literals that are different
abbrev pub sum_mixed : ℕ → Clause → ℕ
sum_mixed seed [] = 0
sum_mixed seed (l ∷ c) = if has c l then sum_mixed seed c else mix seed l + sum_mixed seed c

-- that sum modulo 2^64
unfoldable pub mixed_sum : ℕ → Clause → ℕ
mixed_sum seed c = sum_mixed seed c % 2 ^ 64

-- its upper half
unfoldable pub hash : ℕ → Clause → ℕ
hash seed c = mixed_sum seed c / 2 ^ 32
