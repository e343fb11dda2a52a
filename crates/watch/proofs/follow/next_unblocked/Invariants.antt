use Rattle.{cnf_base.specs.Literals.{Clause, Literal}, std.proofs.Common.{nat_cmp, ◌≡◌, ◌≤◌}}
use Rattle.{std.specs.FinMap.FinMap, watch.specs.Code.Visits.{AreMet, IsInHand, entries_left}}
use Rattle.watch_lists.specs.declared.lists.WatchLists.{WatchLists}
use Rattle.watch.proofs.follow.next_unblocked.Given as goal

abbrev pub invariant-loop-entry : goal.invariant-loop-entry
invariant-loop-entry g l = record {
  entries : l.cursor.entries ≡ l.fn.cursor.entries;
  met : (live : FinMap nat_cmp Clause) (lists : WatchLists) (k : Literal) → IsInHand live lists l.fn.cursor.entries k →
      AreMet live l.fn.cursor k (g.A.Assignment.trail_of l.assignment).lits → AreMet live l.cursor k (g.A.Assignment.trail_of l.assignment).lits;
  no_more : entries_left l.cursor ≤ entries_left l.fn.cursor;
}

abbrev pub decreases-loop-entry : goal.decreases-loop-entry
decreases-loop-entry g l = entries_left l.cursor
