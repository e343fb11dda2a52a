use Rattle.root_literals.proofs.RootLemmas.Reasons.{alive_alike, same-in_order, seen_there}
use Rattle.{root_literals.specs.Order.in_order, std.proofs.Common.arith}
use Rattle.watch.proofs.watch.WatchPropagate.store.Goals as goal

pub returns-clause-live : goal.returns-clause-live
returns-clause-live c = record {
  each = λ slot d at. (in_order d, grind (arith, seen_there), same-in_order d);
  no_other = grind (arith, alive_alike);
}
