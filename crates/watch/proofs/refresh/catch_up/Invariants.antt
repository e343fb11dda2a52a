use Rattle.root_literals.specs.{History.{IsHistory, sure_of, visits}, Watched.IsWatched}
use Rattle.{std.proofs.Common.{length, take, ℕ, ◌-◌, ◌≡◌, ◌≤◌}, tables.specs.ByKey.at}
use Rattle.watch.specs.Code.Visits.{Followed}
use Rattle.std.specs.FinMap as maps
use Rattle.watch.proofs.refresh.catch_up.Given as goal

abbrev pub invariant-loop-done : goal.invariant-loop-done
invariant-loop-done l = record {
  count : visits l.roots.history ≡ l.done;
  history :
      IsHistory (sure_of l.roots.history.doubts.items (maps.get l.store.live)) l.roots.history
      l.assumptions.trail.lits;
  watched :
      IsWatched (maps.get l.store.live)
      (take l.done l.assumptions.trail.lits) l.assumptions.trail.lits;
  begun : (p : ℕ) → l.trues ≤ p → p ≤ length l.assumptions.trail.lits →
      IsWatched (sure_of l.roots.history.doubts.items (maps.get l.store.live))
      (take l.done l.assumptions.trail.lits) (take p l.assumptions.trail.lits);
  followed :
      Followed l.fn.store.live l.store.live l.fn.lists l.lists l.fn.assumptions l.assumptions
      (at l.fn.roots.reasons) (at l.roots.reasons);
  uses : l.roots.uses ≡ l.fn.roots.uses;
  slots : l.store.slots ≡ l.fn.store.slots;
}

abbrev pub decreases-loop-done : goal.decreases-loop-done
decreases-loop-done l = length l.fn.assumptions.trail.reserved - l.done
