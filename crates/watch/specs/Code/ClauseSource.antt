-- The clause of which a part is assumed.
use Rattle.std.specs.FinMap as maps
use Rattle.std.specs.FinMap.{FinMap}
use Rattle.std.specs.Ordering.{nat_cmp}
use Rattle.std.specs.Prelude.{ℕ, List, [], unwrap_or, ⊤}
use Rattle.cnf_base.specs.Literals.{Clause}
use Rattle.trail.specs.Trail.{HasRoom}
use Rattle.propagation.specs.declared.clause_source.ClauseSource.TheVariants.{Given, Stored}
use Rattle.propagation.specs.declared.clause_source.ClauseSource.{ClauseSource}

-- the literals that are given, or those of the clause in the slot
abbrev pub clause_of : FinMap nat_cmp Clause → ClauseSource → Clause
clause_of live (Given lits) = lits.now
clause_of live (Stored slot) = unwrap_or (maps.get live slot) []

-- there is room for the literals, if they are given
abbrev pub HasRoomGiven : List ℕ → ClauseSource → Type 0
HasRoomGiven reserved (Given lits) = HasRoom reserved lits.now
HasRoomGiven reserved (Stored slot) = ⊤
