use Rattle.{propagation.proofs.PropagationLemmas.Reduced.unless_refused, std.proofs.Common.ap}
use Rattle.{std.proofs.Common.{arith, ◌∙◌}, watch.proofs.WatchLemmas.State.source_room}
use Rattle.watch.proofs.WatchLemmas.State.{source_there, watch_room}
use Rattle.watch.proofs.watch.WatchPropagate.assume_part.Goals as goal

pub invariant_of-self : goal.invariant_of-self
invariant_of-self g c =
    let r = c.reserve_given.ensures in search (watch_room r.more r.noted c.self.invariant.0)

pub assume_part-assumed-requires-clause-watch : goal.assume_part-assumed-requires-clause-watch
assume_part-assumed-requires-clause-watch g c = let r = c.reserve_given.ensures in
    simp (ap (λ w. w.is_loading) c.self.view_is ∙ c.in_ok-prepare.ensures.loaded) at (watch_room r.more r.noted c.self.invariant.0)

pub assume_part-assumed-requires-clause-room : goal.assume_part-assumed-requires-clause-room
assume_part-assumed-requires-clause-room g c = let live = c.self.inside.store.live in
    let source = c.args.source.now in
    source_room live source c.reserve_given.new.assumptions.trail.reserved (grind arith)
    (grind (arith, source_there)) (grind (arith, unless_refused))
