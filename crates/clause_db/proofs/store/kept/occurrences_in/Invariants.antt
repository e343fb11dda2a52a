use Rattle.{clause_db.specs.Code.Kept.has_in, occurrences.specs.Occurrences.occurs}
use Rattle.std.proofs.Common.{nat_lt, ℕ, ◌&&◌, ◌≡◌}
use Rattle.std.specs.FinMap as maps
use Rattle.clause_db.proofs.store.kept.occurrences_in.Given as goal

abbrev pub invariant-loop-slot : goal.invariant-loop-slot
invariant-loop-slot g l = (k s : ℕ) → occurs l.occurrences k s
    ≡ (nat_lt s l.slot && has_in (maps.get (g.M.Memory.seen l.memory).live s) k)
