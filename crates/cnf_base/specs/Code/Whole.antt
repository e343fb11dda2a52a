-- Numbers that stand whole at the front of bytes, read in two parts.
use Rattle.std.specs.List.{list_all}
use Rattle.std.specs.Prelude.{ℕ, ◌≡◌, true, List, take}
use Rattle.cnf_base.specs.Ahead.{IsEnded}
use Rattle.cnf_base.specs.Words.{is_digit}
use Rattle.cnf_base.specs.Code.Digits.{decimal_after}

-- so many bytes are digits after those of a number
pub record GoOn (number : ℕ) (bytes : List ℕ) (count size : ℕ) : Type 0 where
  pub ended : IsEnded bytes count
  pub each : list_all is_digit (take count bytes) ≡ true
  pub says : size ≡ decimal_after number (take count bytes)
