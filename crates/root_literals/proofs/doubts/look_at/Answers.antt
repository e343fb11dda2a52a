use Rattle.root_literals.proofs.RootLemmas.{Carried.propagates_on, Watched.settled_more}
use Rattle.{root_literals.proofs.doubts.look_at.Goals.After-look, std.proofs.Common.{arith, rules}}
use Rattle.{std.proofs.Common.take_all, trail.proofs.TrailLemmas.Longer.has_begun}
use Rattle.std.specs.FinMap as maps
use Rattle.root_literals.proofs.doubts.look_at.Goals as goal

pub loop-place-preserved : goal.loop-place-preserved
loop-place-preserved c = let so_far = c.loop-place.invariant in record {
  settled =
      settled_more (maps.get c.args.store.now.live) _ _ c.loop-place-test.true _ _ _ (grind (arith, has_begun)) (grind (arith, has_begun))
      so_far.settled c.in-Settled.ensures.looked;
  propagates = search (rules, propagates_on);
}

pub returns-in-Conflict-clause-propagates : goal.returns-in-Conflict-clause-propagates
returns-in-Conflict-clause-propagates c = search (rules, propagates_on)

pub returns-in-Open-clause-propagates : goal.returns-in-Open-clause-propagates
returns-in-Open-clause-propagates c = search (rules, propagates_on)

pub returns-clause-looked : goal.returns-clause-looked
returns-clause-looked c s among = c.loop-place.invariant.settled s (grind (arith, take_all))
