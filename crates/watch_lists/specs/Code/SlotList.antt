-- A list of slots that knows the place of each.
use Rattle.std.specs.Prelude.{◌≡◌, ℕ, ◌<◌, List, Option, Some, length, slice_index}

-- the place of each slot of the list is noted
pub record IsPlaced (slots : List ℕ) (place_of : ℕ → Option ℕ) : Type 0 where
  pub noted : (i : ℕ) → i < length slots → place_of (slice_index slots i) ≡ Some i
