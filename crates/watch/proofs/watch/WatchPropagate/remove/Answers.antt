use Rattle.propagation.proofs.PropagationLemmas.Scan.{room_removed}
use Rattle.root_literals.proofs.RootLemmas.Reasons.{alive_alike, alive_clause, literals_ordered}
use Rattle.root_literals.{proofs.RootLemmas.Reasons.ordered_remove, specs.Order.each_in_order}
use Rattle.std.proofs.Common.{ap, arith, is_some, sym, ◌/◌, ◌∙◌}
use Rattle.watch.proofs.WatchLemmas.State.{tautologies_removed, watch_put_back, watch_removed}
use Rattle.std.specs.FinMap as maps
use Rattle.watch.proofs.watch.WatchPropagate.remove.Goals as goal

pub invariant_of-self : goal.invariant_of-self
invariant_of-self c = let i = c.self.inside in let live = i.store.live in
    let after = c.remove_clause.new.store.live in let slot = c.args.slot in
    let left = c.leave.ensures in
    let watch = watch_put_back _ _ _ _ _ _ _ left.lists c.self.invariant.0 in
    let e = c.remove_entries.ensures in
    let d = alive_clause live slot (sym (alive_alike live slot) ∙ ap (λ w. is_some (maps.get w.propagation.live slot)) c.self.view_is ∙ c.requires.alive) in
    let gone = ap each_in_order c.remove_clause.ensures.live ∙ ordered_remove live slot in
    let room = room_removed i.assumptions.trail.reserved (each_in_order live) (each_in_order after) slot gone watch.scan.room in (
      watch_removed _ _ _ _ _ _ _ _ _ _ _ watch left.assumptions
          slot d.0 (e.different d.0 d.1) (record { each = λ k x here l member. left.reserved (l / 2) ∙ room.each k x here l member })
          (simp c.remove_clause.ensures.live left.kept)
          (λ l h. left.noted l (watch.noted l (sym (left.reserved (l / 2)) ∙ h)))
          d.1 c.remove_clause.ensures.live (grind arith) (e.fitting d.0 d.1),
      c.remove_clause.ensures.live_alone ∙ sym (literals_ordered after),
      c.remove_clause.ensures.closure,
      tautologies_removed _ _ _ _ _ _ c.self.invariant.3 d.1 c.remove_clause.ensures.live (e.tautologies d.0 d.1),
    )
