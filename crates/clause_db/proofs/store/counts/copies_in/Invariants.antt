use Rattle.clause_db.proofs.StoreLemmas.Counts.{IsCountBelow}
use Rattle.clause_db.proofs.store.counts.copies_in.Given as goal

abbrev pub invariant-loop-slot : goal.invariant-loop-slot
invariant-loop-slot g l = IsCountBelow (g.M.Memory.seen l.memory).live l.slot l.l l.count
