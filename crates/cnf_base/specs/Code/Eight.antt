-- Eight bytes as one number.
use Rattle.std.specs.Int.Bits.{bit_xor}
use Rattle.std.specs.List.{list_all}
use Rattle.std.specs.Prelude.{ℕ, ◌+◌, ◌*◌, ◌<◌, ◌≤◌, ◌≡◌, true, List, [], ◌∷◌, length, take}
use Rattle.std.specs.Prelude.{fold, slice_index, Bool, cond, drop}
use Rattle.cnf_base.specs.Words.{is_digit}
use Rattle.cnf_base.specs.Code.Digits.{decimal_value}

-- bytes as one number, the first one lowest
abbrev pub packed : List ℕ → ℕ
packed [] = 0
packed (b ∷ bs) = b + 256 * packed bs

-- the first eight bytes of a list
abbrev pub eight : List ℕ → List ℕ
eight bs =
    slice_index bs 0 ∷ slice_index bs 1 ∷ slice_index bs 2 ∷ slice_index bs 3
    ∷ slice_index bs 4 ∷ slice_index bs 5 ∷ slice_index bs 6 ∷ slice_index bs 7 ∷ []

-- a byte, as its bits differ from those of `0`
abbrev pub from_zero : ℕ → ℕ
from_zero b = bit_xor b 48

-- the bytes of a number, with a `0` in the place of a `-`
abbrev pub unsigned : Bool → List ℕ → List ℕ
unsigned is_negative bytes = cond is_negative (48 ∷ drop 1 bytes) bytes

-- each number is below this one
abbrev pub AreBelow : ℕ → List ℕ → Type 0
AreBelow n [] = Unit {0}
AreBelow n (x ∷ xs) = (x < n) × AreBelow n xs

-- eight numbers below this one
pub record AreEight (n : ℕ) (xs : List ℕ) : Type 0 where
  pub size : length xs ≡ 8
  pub each : AreBelow n xs

-- the number with these digits
abbrev pub decimal : List ℕ → ℕ
decimal digits = fold (λ n d. n * 10 + d) 0 digits

-- so many bytes, eight at most, are digits that write this number
pub record AreFront (bytes : List ℕ) (count value : ℕ) : Type 0 where
  pub some : 0 < count
  pub most : count ≤ 8
  pub each : list_all is_digit (take count bytes) ≡ true
  pub says : value ≡ decimal_value (take count bytes)
