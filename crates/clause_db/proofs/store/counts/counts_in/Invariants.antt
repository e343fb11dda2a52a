use Rattle.clause_db.{proofs.StoreLemmas.Counts.IsCountBelow, specs.Code.Counts.count_of}
use Rattle.{std.proofs.Common.ℕ, tables.specs.ByKey.at}
use Rattle.clause_db.proofs.store.counts.counts_in.Given as goal

abbrev pub invariant-loop-slot : goal.invariant-loop-slot
invariant-loop-slot g l =
    (k : ℕ) → IsCountBelow (g.M.Memory.seen l.memory).live l.slot k (count_of (at l.counts k))
