-- How the code holds a numbering: a number by variable, 0 where it wasn't met, and how many were.
use Rattle.std.specs.Prelude.{ℕ, zero, suc, ◌+◌, ◌==◌, ◌≡◌, List, [], ◌∷◌, ◌++◌, if◌then◌else◌}
use Rattle.std.specs.Prelude.{unwrap_or}
use Rattle.cnf_base.specs.Literals.{has}
use Rattle.numbering.specs.Names.{number_in}
use Rattle.tables.specs.ByKey.{at}
use Rattle.tables.specs.declared.by_key.ByKey.{ByKey}

-- the number that stands at a variable
abbrev pub number_at : ByKey ℕ → ℕ → ℕ
number_at numbers v = unwrap_or (at numbers v) 0

-- the greatest variable up to a bound at which the number stands, or 0
unfoldable pub name_up_to : (ℕ → ℕ) → ℕ → ℕ → ℕ
name_up_to number n zero = 0
name_up_to number n (suc v) = if number (suc v) == n then suc v else name_up_to number n v

-- the variables with the numbers from 1 to this one, in the order of their numbers
unfoldable pub names_of : (ℕ → ℕ) → ℕ → List ℕ
names_of number zero = []
names_of number (suc n) = names_of number n ++ name_up_to number (suc n) 268435455 ∷ []

-- 1 where a number stands
abbrev pub counted_as : ℕ → ℕ
counted_as n = if n == 0 then 0 else 1

-- how many of the variables from 1 to a bound were met
unfoldable pub met_up_to : (ℕ → ℕ) → ℕ → ℕ
met_up_to number zero = 0
met_up_to number (suc v) = met_up_to number v + counted_as (number (suc v))

-- the number of a variable among these, or 0
abbrev pub number_or : List ℕ → ℕ → ℕ
number_or names v = if has names v then number_in names v else 0

-- the count is how many variables were met, and at each its number stands
pub record IsNumbering (number : ℕ → ℕ) (count : ℕ) : Type 0 where
  pub counted : count ≡ met_up_to number 268435455
  pub stands : (v : ℕ) → number v ≡ number_or (names_of number count) v
