use Rattle.std.{proofs.Common.{ap, subst, sym, take, ◌∙◌}, specs.Vec.vec_capacity}
use Rattle.{tables.specs.ByKey.at, trail.specs.Code.Values.{IsTrail, reserved_in, seen_in}}
use Rattle.trail.proofs.TrailLemmas.Values.{last_known, trail_cut, trail_taken}
use Rattle.trail.proofs.trail.Trail.undo_to.Goals as goal

pub open_all-requires : goal.open_all-requires
open_all-requires c =
    let t = c.self.inside in
    last_known _ _ _ _ _ _ (trail_cut t.lits.items c.deref.result.now (reserved_in (seen_in t.seen)) (vec_capacity t.lits) (seen_in t.seen) (at t.values) c.deref.ensures.value c.self.invariant.0 c.args.n)

pub invariant_of-self : goal.invariant_of-self
invariant_of-self c =
    let t = c.self.inside in
    let whole = trail_cut t.lits.items c.deref.result.now (reserved_in (seen_in t.seen)) (vec_capacity t.lits) (seen_in t.seen) (at t.values) c.deref.ensures.value c.self.invariant.0 c.args.n in
    let taken = trail_taken _ _ _ _ _ _ whole (at c.open_all.new.values) c.open_all.ensures.known c.open_all.ensures.opened in (
      subst (λ capacity. IsTrail c.truncate.new.self.items (reserved_in (seen_in t.seen)) capacity (seen_in t.seen) (at c.open_all.new.values)) (sym c.truncate.ensures.capacity)
          (subst (λ ls. IsTrail ls (reserved_in (seen_in t.seen)) (vec_capacity t.lits) (seen_in t.seen) (at c.open_all.new.values)) (ap (take c.args.n) c.deref.ensures.value ∙ sym c.truncate.ensures.items) taken),
      c.self.invariant.1,
      c.self.invariant.2,
    )
