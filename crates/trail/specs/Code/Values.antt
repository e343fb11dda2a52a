-- How the code holds a trail: a value by literal.
use Rattle.std.specs.Prelude.{ℕ, zero, suc, Option, unwrap_or, ◌≡◌, ◌≤◌, List, [], ◌∷◌, map, length}
use Rattle.std.specs.Prelude.{Bool, false, is_some, IsTrue, IsSome, Some, ◌||◌, ◌<◌, if◌then◌else◌, slice_get}
use Rattle.cnf_base.specs.Literals.{Literal, complement, variable, has}
use Rattle.tables.specs.ByKey.{at}
use Rattle.tables.specs.declared.by_key.ByKey.{ByKey}
use Rattle.trail.specs.Trail.{value_under, HasNoVariableTwice, TrailState}
use Rattle.trail.specs.declared.value.Value.TheVariants.{Open}
use Rattle.trail.specs.declared.value.Value.{Value}

-- whether a variable was reserved
abbrev pub seen_in : ByKey Bool → ℕ → Bool
seen_in seen v = unwrap_or (at seen v) false

-- those of the variables up to a bound that were reserved, the greatest first
unfoldable pub seen_up_to : (ℕ → Bool) → ℕ → List ℕ
seen_up_to seen zero = []
seen_up_to seen (suc v) =
    if seen (suc v) then suc v ∷ seen_up_to seen v else seen_up_to seen v

-- the variables that were reserved
abbrev pub reserved_in : (ℕ → Bool) → List ℕ
reserved_in seen = seen_up_to seen 268435455

-- a literal without a value is open
abbrev pub known_value : Option Value → Value
known_value o = unwrap_or o Open

-- these literals and their complements are open, all others are as before, and as many have a value
pub record Opens (before after : ℕ → Option Value) (lits : List Literal) : Type 0 where
  pub known : (k : ℕ) → is_some (after k) ≡ is_some (before k)
  pub opened : (k : ℕ) → known_value (after k) ≡
      (if has lits k || has lits (complement k) then Open else known_value (before k))

-- just the variables that were reserved are seen, and both literals of each have a value, which is
-- what the trail says of them; it has no variable twice, and room for one literal of each
pub record IsTrail (lits : List Literal) (reserved : List ℕ) (capacity : ℕ)
    (seen : ℕ → Bool) (value_of : ℕ → Option Value) : Type 0 where
  pub different : HasNoVariableTwice lits
  pub within : (v : ℕ) → IsTrue (has (map variable lits) v) → IsTrue (has reserved v)
  pub fits : length reserved ≤ capacity
  pub noted : (v : ℕ) → seen v ≡ has reserved v
  pub known : (l : Literal) → IsTrue (has reserved (variable l)) → IsSome (value_of l)
  pub values : (l : Literal) → known_value (value_of l) ≡ value_under lits l

-- values by literal of which none is missing: they say what the trail says of each literal for whose
-- variable it has room, and it has no variable twice
pub record HasAll (trail : TrailState) (values : List Value) : Type 0 where
  pub different : HasNoVariableTwice trail.lits
  pub within : (l : Literal) → IsTrue (has trail.reserved (variable l)) → l < length values
  pub says : (l : Literal) (v : Value) → slice_get values l ≡ Some v →
      v ≡ value_under trail.lits l
