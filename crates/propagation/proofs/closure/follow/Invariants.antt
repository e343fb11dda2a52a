use Rattle.{propagation.specs.Code.Closure.IsFollowed, std.proofs.Common.{◌-◌, ◌≡◌}}
use Rattle.std.specs.FinMap as maps
use Rattle.propagation.proofs.closure.follow.Given as goal

abbrev pub invariant-loop-done : goal.invariant-loop-done
invariant-loop-done g l = record {
  followed : IsFollowed (maps.get l.fn.store.live) l.done l.found;
  same : l.store ≡ l.fn.store;
}

abbrev pub decreases-loop-done : goal.decreases-loop-done
decreases-loop-done g l = 18446744073709551616 - l.done
