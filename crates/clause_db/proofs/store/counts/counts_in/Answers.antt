use Rattle.clause_db.proofs.StoreLemmas.Counts.{count_next, count_none}
use Rattle.{clause_db.specs.Code.Counts.count_of, std.proofs.Common.{ap}}
use Rattle.clause_db.proofs.store.counts.counts_in.Goals as goal

pub loop-slot-init : goal.loop-slot-init
loop-slot-init g c l = count_none _ l _ (ap count_of (c.new-counts.ensures l))

pub loop-slot-preserved : goal.loop-slot-preserved
loop-slot-preserved g c l =
    count_next _ _ l _ _ (c.loop-slot.invariant l) (c.in_ok-count_slot.ensures l)
