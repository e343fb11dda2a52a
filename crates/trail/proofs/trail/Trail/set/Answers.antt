use Rattle.{cnf_base.specs.Literals.{has, variable}, tables.specs.ByKey.at}
use Rattle.std.proofs.Common.{Option, Some, ap, arith, cond, eqb, refl, subst, sym, ℕ, ◌∙◌}
use Rattle.{std.specs.Vec.vec_capacity, trail.specs.declared.value.Value.{Value, TheVariants.True}}
use Rattle.trail.proofs.TrailLemmas.Values.{both_known, room_for, trail_set}
use Rattle.trail.specs.{Code.Values.{IsTrail, reserved_in, seen_in}, Trail.value_under}
use Rattle.trail.proofs.trail.Trail.set.Goals as goal

pub push_reserved-requires : goal.push_reserved-requires
push_reserved-requires c =
    let t = c.self.inside in
    let open_now = ap (λ s. value_under s.lits c.args.l) c.self.view_is ∙ c.requires.open in
    let here = ap (λ s. has s.reserved (variable c.args.l)) c.self.view_is ∙ c.requires.reserved in
    let room = room_for t.lits.items (reserved_in (seen_in t.seen)) (vec_capacity t.lits) (seen_in t.seen) (at t.values) c.self.invariant.0 c.args.l open_now here in
    omega (arith, room, t.lits.ok.0)

pub set_both-requires-clause-complement : goal.set_both-requires-clause-complement
set_both-requires-clause-complement c =
    let t = c.self.inside in
    let here = ap (λ s. has s.reserved (variable c.args.l)) c.self.view_is ∙ c.requires.reserved in
    (both_known t.lits.items (reserved_in (seen_in t.seen)) (vec_capacity t.lits) (seen_in t.seen) (at t.values) c.self.invariant.0 c.args.l here).1

pub invariant_of-self : goal.invariant_of-self
invariant_of-self c =
    let t = c.self.inside in let l = c.args.l in
    let open_now = ap (λ s. value_under s.lits l) c.self.view_is ∙ c.requires.open in
    let here = ap (λ s. has s.reserved (variable l)) c.self.view_is ∙ c.requires.reserved in
    let first : ℕ → Option Value = λ k. cond (eqb k l) (Some True) (at t.values k) in
    let set = trail_set t.lits.items (reserved_in (seen_in t.seen)) (vec_capacity t.lits) (seen_in t.seen) (at t.values) c.self.invariant.0 l open_now here first (at c.set_both.new.values) (λ k. refl) c.set_both.ensures in (
      subst (λ n. IsTrail c.push_reserved.new.self.items (reserved_in (seen_in t.seen)) n (seen_in t.seen) (at c.set_both.new.values)) (sym c.push_reserved.ensures.capacity)
          (subst (λ ls. IsTrail ls (reserved_in (seen_in t.seen)) (vec_capacity t.lits) (seen_in t.seen) (at c.set_both.new.values)) (sym c.push_reserved.ensures.items) set),
      c.self.invariant.1,
      c.self.invariant.2,
    )
