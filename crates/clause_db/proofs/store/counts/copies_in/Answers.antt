use Rattle.std.proofs.Common.{refl, arith}
use Rattle.clause_db.proofs.StoreLemmas.Counts.{count_none, count_next, count_whole}
use Rattle.clause_db.proofs.store.counts.copies_in.Goals as goal
use Rattle.clause_db.proofs.store.counts.copies_in.Goals.{then-has_at, else-has_at}

pub loop-slot-init : goal.loop-slot-init
loop-slot-init g c = count_none _ _ 0 refl

pub loop-slot-preserved : goal.loop-slot-preserved
loop-slot-preserved g c =
    let next = count_next _ c.loop-slot.slot c.args.l c.loop-slot.count c.if-has_at.count c.loop-slot.invariant in
    elim c.if-has_at.branch [ then-has_at w ↦ next (grind arith) | else-has_at w ↦ next (grind arith) ]

pub returns : goal.returns
returns g c = count_whole _ _ c.args.l _ (grind arith) c.loop-slot.invariant
