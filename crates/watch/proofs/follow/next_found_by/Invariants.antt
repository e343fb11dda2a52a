use Rattle.std.proofs.Common.{◌≡◌, ◌≤◌}
use Rattle.watch.specs.Code.Visits.{CanLook, VisitsUnder, entries_left}
use Rattle.watch.proofs.follow.next_found_by.Given as goal

abbrev pub invariant-loop-entry : goal.invariant-loop-entry
invariant-loop-entry g l = record {
  can : CanLook l.store.live l.lists l.cursor (g.A.Assignment.trail_of l.assignment) l.l;
  visited : VisitsUnder (g.A.Assignment.trail_of l.assignment) l.fn.store.live l.store.live
      l.fn.lists l.lists l.fn.cursor.entries l.cursor.entries l.l;
  no_more : entries_left l.cursor ≤ entries_left l.fn.cursor;
  slots : l.store.slots ≡ l.fn.store.slots;
}

abbrev pub decreases-loop-entry : goal.decreases-loop-entry
decreases-loop-entry g l = entries_left l.cursor
