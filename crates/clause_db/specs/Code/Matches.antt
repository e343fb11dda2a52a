-- The clauses that a search accepts.
use Rattle.std.specs.List.{list_all}
use Rattle.std.specs.Prelude.{ℕ, ◌==◌, ◌&&◌, Bool, false, Option, Some, None, [], ◌∷◌, length}
use Rattle.cnf_base.specs.Literals.{Literal, Clause}

-- whether a clause has so many literals, and all pass the test
abbrev pub is_match : (Literal → Bool) → ℕ → Clause → Bool
is_match passes len c = length c == len && list_all passes c

-- the same of what stands in a slot
abbrev pub is_match_in : (Literal → Bool) → ℕ → Option Clause → Bool
is_match_in passes len (Some c) = is_match passes len c
is_match_in passes len None = false

-- whether what stands in a slot is the clause of a literal alone
abbrev pub is_unit_in : Literal → Option Clause → Bool
is_unit_in l (Some (k ∷ [])) = k == l
is_unit_in l _ = false
