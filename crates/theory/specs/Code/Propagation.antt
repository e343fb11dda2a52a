-- The unit rule at one clause.
use Rattle.std.specs.Prelude.{◌≢◌, Bool, IsTrue}
use Rattle.cnf_base.specs.Literals.{Literal, complement, Clause, has}

-- ---- The unit rule at one clause

-- the complements of all other literals of the clause pass
abbrev pub OthersFail : (Literal → Bool) → Clause → Literal → Type 0
OthersFail passes c m = (l : Literal) → IsTrue (has c l) → l ≢ m → IsTrue (passes (complement l))

-- what passes keeps the unit rule at this clause
abbrev pub IsClosedAt : (Literal → Bool) → Clause → Type 0
IsClosedAt passes c = (m : Literal) → IsTrue (has c m) → OthersFail passes c m → IsTrue (passes m)
