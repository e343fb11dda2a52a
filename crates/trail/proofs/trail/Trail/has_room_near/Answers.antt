-- One more variable.
use Rattle.cnf_base.{proofs.WalkLemmas.has_more, specs.Literals.{has, variable}}
use Rattle.std.proofs.Common.{Some, ap, arith, eqb-true, false, inl, inr, length, subst, sym, true}
use Rattle.std.proofs.{Common.{unwrap_or, ◌<◌, ◌∙◌, ◌≡◌}, lemmas.Bool.{or_cases, Decides.nat_tests}}
use Rattle.{std.proofs.lemmas.Option.slice_get-get_or, tables.specs.ByKey.at}
use Rattle.trail.proofs.trail.Trail.has_room_near.Goals as goal

pub loop-l-preserved : goal.loop-l-preserved
loop-l-preserved c l h =
    let x = c.l-item.result in let v = c.var.result in let reserved = c.args.self.now.reserved in
    let near = c.near-near.result.now in let look = c.in-Some-true.ensures.lookup in
    let inside : v < length near = grind (arith, nat_tests, look.0) in
    let seen : at c.self.inside.seen v ≡ Some true =
    grind (arith, slice_get-get_or, inside, look) in
    let here : has reserved v ≡ true =
    ap (λ t. has t.reserved v) (sym c.self.view_is) ∙ sym (c.self.invariant.0.noted v) ∙ ap (λ o. unwrap_or o false) seen in
    elim (or_cases _ _ (sym (has_more c.args.clause.now c.loop-l.l-index c.loop-l-test.true x c.l-item.is l) ∙ h)) [
      | inl old ↦ c.loop-l.invariant l old
      | inr new ↦ subst (λ m. has reserved (variable m) ≡ true) (eqb-true x l new) (subst (λ w. has reserved w ≡ true) c.var.ensures.value here)
    ]
