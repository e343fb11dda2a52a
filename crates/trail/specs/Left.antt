-- What is left of a clause: its literals that are not false, how many there are, and the first of a
-- part.
use Rattle.std.specs.Prelude.{ℕ, ◌<◌, ◌≤◌, List, [], ◌∷◌, length, slice_index, IsFalse, IsTrue}
use Rattle.std.specs.Prelude.{◌==◌, if◌then◌else◌, Bool, true, false}
use Rattle.std.specs.List.{list_all}
use Rattle.cnf_base.specs.Literals.{Literal, complement, Clause, has}
use Rattle.trail.specs.declared.left.Left.{Left}
use Rattle.trail.specs.declared.left.Left.TheVariants.{Nothing, One, More}

-- how many different literals there are
abbrev pub how_many : List Literal → Left
how_many [] = Nothing
how_many (l ∷ ls) = if list_all (λ k. k == l) ls then One l else More

-- whether all literals of a clause are false but for one, where this is left of it
abbrev pub is_one_at_most : Left → Clause → Bool
is_one_at_most More c = false
is_one_at_most left [] = false
is_one_at_most left (l ∷ c) = true

-- the place is this one or after it, and its literal is not false
abbrev pub IsNonFalseAt : List Literal → Clause → ℕ → ℕ → Type 0
IsNonFalseAt ls c from place =
    (from ≤ place) × (place < length c) × IsFalse (has ls (complement (slice_index c place)))

-- the literals from one place to another are false
abbrev pub AreFalseBetween : List Literal → Clause → ℕ → ℕ → Type 0
AreFalseBetween ls c from to =
    (k : ℕ) → from ≤ k → k < to → IsTrue (has ls (complement (slice_index c k)))

-- the literals from this place on are false
abbrev pub AreFalseFrom : List Literal → Clause → ℕ → Type 0
AreFalseFrom ls c from = AreFalseBetween ls c from (length c)
