use Rattle.{std.proofs.Common.{length, ◌*◌, ◌+◌, ◌-◌, ◌≡◌}, tables.specs.ByKey.at}
use Rattle.{watch.specs.Code.{Turns.IsTurn, Visits.Followed}, watch_lists.specs.Waiting.count_of}
use Rattle.watch.proofs.propagate.propagate.Given as goal

abbrev pub invariant-loop-done : goal.invariant-loop-done
invariant-loop-done l = record {
  turn : IsTurn l.store.live l.assumptions.trail.lits l.done l.waiting;
  followed :
      Followed l.fn.store.live l.store.live l.fn.lists l.lists l.fn.assumptions l.assumptions
      (at l.fn.reasons) (at l.reasons);
  slots : l.store.slots ≡ l.fn.store.slots;
}

abbrev pub decreases-loop-done : goal.decreases-loop-done
decreases-loop-done l = 2 * (length l.fn.assumptions.trail.reserved - l.done) + count_of l.waiting
