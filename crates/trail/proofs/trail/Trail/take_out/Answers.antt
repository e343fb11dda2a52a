use Rattle.std.proofs.Common.{Option, Some, cond, eqb, length, refl, subst, sym, ℕ, ◌<◌, ◌∙◌}
use Rattle.std.{proofs.lemmas.Grind.get_or_default_zero, specs.Vec.vec_capacity}
use Rattle.{tables.specs.ByKey.at, trail.proofs.TrailLemmas.Without.{out_known, trail_out}}
use Rattle.trail.specs.{Code.Values.{IsTrail, reserved_in, seen_in}, declared.value.Value.Value}
use Rattle.trail.specs.declared.value.Value.TheVariants.{Open}
use Rattle.trail.proofs.trail.Trail.take_out.Goals as goal

pub set_both-requires-clause-complement : goal.set_both-requires-clause-complement
set_both-requires-clause-complement c =
    let t = c.self.inside in
    let inside = subst (λ s. c.args.place < length s.lits) (sym c.self.view_is) c.requires in
    let stands = sym (get_or_default_zero t.lits.items c.args.place c.remove-l.result inside) ∙ sym c.remove-l.ensures.value in
    (out_known t.lits.items c.args.place inside c.remove-l.result stands (reserved_in (seen_in t.seen)) (vec_capacity t.lits) (seen_in t.seen) (at t.values) c.self.invariant.0).1

pub invariant_of-self : goal.invariant_of-self
invariant_of-self c =
    let t = c.self.inside in let l = c.remove-l.result in
    let inside = subst (λ s. c.args.place < length s.lits) (sym c.self.view_is) c.requires in
    let stands = sym (get_or_default_zero t.lits.items c.args.place l inside) ∙ sym c.remove-l.ensures.value in
    let first : ℕ → Option Value = λ k. cond (eqb k l) (Some Open) (at t.values k) in
    let out = trail_out t.lits.items c.args.place inside l stands (reserved_in (seen_in t.seen)) (vec_capacity t.lits) (seen_in t.seen) (at t.values) c.self.invariant.0 first (at c.set_both.new.values) (λ k. refl) c.set_both.ensures in (
      subst (λ n. IsTrail c.remove-l.new.self.items (reserved_in (seen_in t.seen)) n (seen_in t.seen) (at c.set_both.new.values)) (sym c.remove-l.ensures.capacity)
          (subst (λ ls. IsTrail ls (reserved_in (seen_in t.seen)) (vec_capacity t.lits) (seen_in t.seen) (at c.set_both.new.values)) (sym c.remove-l.ensures.items) out),
      c.self.invariant.1,
      c.self.invariant.2,
    )
