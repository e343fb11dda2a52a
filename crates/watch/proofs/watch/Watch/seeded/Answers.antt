use Rattle.{propagation.proofs.PropagationLemmas.Scan.none_alone, std.proofs.Common.{ap, arith}}
use Rattle.root_literals.proofs.RootLemmas.Reasons.{literals_ordered}
use Rattle.watch.proofs.WatchLemmas.State.{tautologies_none, watch_empty}
use Rattle.watch.proofs.watch.Watch.seeded.Goals as goal

pub invariant_of-result : goal.invariant_of-result
invariant_of-result c = (
  watch_empty _ _ _ _ _ (ap (λ s. s.live) c.in_ok-seeded.ensures) c.new.ensures.entries c.new-2.ensures c.new-5.ensures.kept c.new-5.ensures.visited c.in_ok-new.ensures.lits c.in_ok-new.ensures.reserved c.in_ok-new.ensures.nothing_assumed c.new-5.ensures.counted,
  grind (arith, none_alone, literals_ordered),
  simp c.new-6.ensures tt,
  grind (arith, tautologies_none),
)
