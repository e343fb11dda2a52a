-- Watch lists are filled part by part. No public contract speaks of it.
use Rattle.std.specs.Prelude.{ℕ, ◌==◌, ◌/◌, ◌+◌, Bool, min, if◌then◌else◌, [], ◌∷◌}
use Rattle.cnf_base.specs.Literals.{Clause, Literal}
use Rattle.clause_db.specs.Store.{is_tautology}
use Rattle.watch_lists.specs.declared.part.Part.{Part}

-- the number of the part that has a literal
abbrev pub part_of : (last : ℕ) → Literal → ℕ
part_of last l = min (l / 262144) last

-- whether a part has it
abbrev pub is_in : Part → Literal → Bool
is_in part l = part_of part.last l == part.number

-- how many of the literals that a clause watches are among these
abbrev pub watched_in : (Literal → Bool) → Clause → ℕ
watched_in among [] = 0
watched_in among (a ∷ []) = 0
watched_in among (a ∷ b ∷ c) = if is_tautology (a ∷ b ∷ c) then 0
    else (if among a then 1 else 0) + (if among b then 1 else 0)
