-- Clauses in an order that does not depend on where their literals stand (our own profile).
use Rattle.std.specs.FinMap as maps
use Rattle.std.specs.FinMap.{FinMap}
use Rattle.std.specs.Ordering.{nat_cmp}
use Rattle.std.specs.Prelude.{[], ◌∷◌, ⊤, map}
use Rattle.cnf_base.specs.Literals.{Clause}

-- the literals of a clause, as a set
abbrev pub set_of : Clause → FinMap nat_cmp ⊤
set_of [] = maps.empty
set_of (l ∷ c) = maps.insert (set_of c) l tt

-- the different literals of a clause, by rising number
abbrev pub in_order : Clause → Clause
in_order c = maps.keys (set_of c)

-- the clauses in their slots, each in that order
unfoldable pub each_in_order : FinMap nat_cmp Clause → FinMap nat_cmp Clause
each_in_order live = maps.from_sorted (map (λ e. (e.0, in_order e.1)) (maps.entries live))
