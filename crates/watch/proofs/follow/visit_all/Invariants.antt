use Rattle.{std.proofs.Common.◌≡◌, tables.specs.ByKey.at, watch.specs.Code.Visits.AreMet}
use Rattle.watch.specs.Code.Visits.{Visited, entries_left}
use Rattle.watch.proofs.follow.visit_all.Given as goal

abbrev pub invariant-loop-at : goal.invariant-loop-at
invariant-loop-at l = record {
  visited :
      Visited l.fn.store.live l.store.live l.fn.lists l.lists l.fn.cursor.entries l.cursor.entries
      l.fn.assumptions l.assumptions (at l.fn.reasons) (at l.reasons) l.l;
  met : AreMet l.store.live l.cursor l.l l.assumptions.trail.lits;
  slots : l.store.slots ≡ l.fn.store.slots;
}

abbrev pub decreases-loop-at : goal.decreases-loop-at
decreases-loop-at l = entries_left l.cursor
