use Rattle.root_literals.specs.Code.{Doubts.AreSettled, Propagated.PropagatesTo}
use Rattle.{std.proofs.Common.take, tables.specs.ByKey.at}
use Rattle.std.specs.FinMap as maps
use Rattle.root_literals.proofs.doubts.look_at.Given as goal

abbrev pub invariant-loop-place : goal.invariant-loop-place
invariant-loop-place l = record {
  settled : AreSettled (maps.get l.store.live) (take l.place l.slots) l.fn.assumptions.trail.lits l.assumptions.trail.lits;
  propagates :
      PropagatesTo l.store.live l.store.live l.fn.assumptions l.assumptions (at l.fn.reasons)
      (at l.reasons);
}
