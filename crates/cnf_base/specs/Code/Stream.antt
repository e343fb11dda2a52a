-- How the code follows an input: what holds of a source's fields.
use Rattle.std.specs.Io.KnownBytes.{IsAtEnd}
use Rattle.std.specs.Prelude.{ℕ, ◌≡◌, Option, None, Some, ◌<◌, ◌≤◌, List, length}
use Rattle.cnf_base.specs.Stream.{Reader}
use Rattle.cnf_base.specs.declared.input.Ending.TheVariants.{End, Failed}
use Rattle.cnf_base.specs.declared.input.Ending.{Ending}

-- what was met is what the reader gave
abbrev pub IsMet : Option Ending → Reader → Type 0
IsMet None reader = Unit {0}
IsMet (Some End) reader = IsAtEnd reader.left × (reader.over ≡ Some End)
IsMet (Some Failed) reader = reader.over ≡ Some Failed

-- nothing is held past the end
abbrev pub IsUsedUp : Option Ending → ℕ → ℕ → Type 0
IsUsedUp None at end = Unit {0}
IsUsedUp (Some met) at end = at ≡ end

-- what is true of the fields of a source
pub record IsSource (piece : List ℕ) (from at end : ℕ) (met : Option Ending) (reader : Reader)
    (col : ℕ) : Type 0 where
  pub behind : from ≤ at
  pub ordered : at ≤ end
  pub within : end ≤ length piece
  pub size : length piece ≡ 65536
  pub known : IsMet met reader
  pub used_up : IsUsedUp met at end
  pub from_one : 0 < col
