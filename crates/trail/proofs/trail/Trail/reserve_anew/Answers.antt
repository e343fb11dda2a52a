use Rattle.{cnf_base.specs.Literals.has, std.proofs.Common.{Bool, ap, arith, cond, eqb, is_some}}
use Rattle.std.proofs.Common.{length, refl, subst, sym, true, ℕ, ◌<◌, ◌∙◌, ◌≡◌, ◌≤◌}
use Rattle.{std.{proofs.lemmas.Bool.cases_eq, specs.Vec.vec_capacity}, tables.specs.ByKey.at}
use Rattle.trail.proofs.TrailLemmas.Reserved.{seen_adds, seen_more, seen_noted, seen_same}
use Rattle.trail.proofs.TrailLemmas.Values.{negative_key, trail_reserved, trail_wider}
use Rattle.trail.specs.{Code.Values.{IsTrail, reserved_in, seen_in}, Trail.is_variable}
use Rattle.trail.proofs.trail.Trail.reserve_anew.Goals as goal

in_range : (v : ℕ) → is_variable v ≡ true → (1 ≤ v) × (v ≤ 268435455)
in_range v h = grind arith

-- the variables were all reserved before, but for the one that is
up_to : (before after : Bool) (dense w v : ℕ) → after ≡ cond (eqb w v) true before
    → (dense < w → w ≡ v) → (w ≤ dense → before ≡ true) → after ≡ true
up_to before after dense w v put next was = grind arith

pub invariant_of-self-in_err-reserve-2 : goal.invariant_of-self-in_err-reserve-2
invariant_of-self-in_err-reserve-2 c = grind (arith, seen_same)

-- one more variable is seen
puts : (c : goal.After-self-2-1) (w : ℕ) → seen_in c.set.new.self w
    ≡ cond (eqb w c.args.var) true (seen_in c.self.inside.seen w)
puts c w = grind arith

pub invariant_of-self-2 : goal.invariant_of-self-2
invariant_of-self-2 c =
    let t = c.self.inside in let v = c.args.var in let lit_is = c.in-Some.ensures.some in
    let range = in_range v (sym c.positive.ensures.variant ∙ ap is_some c.in-Some.is) in
    let before = reserved_in (seen_in t.seen) in let after = reserved_in (seen_in c.set.new.self) in
    let values = c.reserve_both.new.values in let capacity = vec_capacity c.reserve.new.self in
    let made = c.in_ok-reserve_both.ensures in
    let wide = trail_wider t.lits.items before (vec_capacity t.lits) (seen_in t.seen)
    (at t.values) c.self.invariant.0 capacity (seen_in t.seen) (at values)
    c.reserve.ensures.capacity (λ k. refl) made.same made.kept in
    let none = c.self.invariant.0.noted v ∙ ap (λ s. has s.reserved v) c.self.view_is
    ∙ c.requires in
    let more = seen_more (seen_in t.seen) (seen_in c.set.new.self)
    v none range.0 (puts c) 268435455 range.1 in
    let room : length after ≤ capacity =
    omega (arith, more, c.in_ok-reserve.ensures.ok, c.self.invariant.1) in
    let positive = ap (λ k. is_some (at values k)) (sym lit_is) ∙ made.room in
    let negative = ap (λ k. is_some (at values k))
    (sym (negative_key v c.in-Some.lit lit_is)) ∙ made.other in
    let reserved = trail_reserved t.lits.items before capacity (seen_in t.seen) (at values)
    wide v after (seen_in c.set.new.self)
    (seen_adds (seen_in t.seen) (seen_in c.set.new.self) 268435455 v range.0 range.1 (puts c))
    (seen_noted (seen_in t.seen) (seen_in c.set.new.self)
    268435455 v range.0 range.1 (puts c) c.self.invariant.0.noted) room positive negative in (
      subst (λ ls. IsTrail ls after capacity (seen_in c.set.new.self) (at values))
          (sym c.reserve.ensures.items) reserved,
      omega (arith, more, c.self.invariant.1),
      (λ w some most. up_to _ _ t.dense w v (puts c w)
          (c.dense_with-self-inside.ensures w most) (c.self.invariant.2 w some)),
    )

pub returns-clause-reserved : goal.returns-clause-reserved
returns-clause-reserved c w =
    let t = c.self.inside in let v = c.args.var in
    let variable = sym c.positive.ensures.variant ∙ ap is_some c.in-Some.is in
    let range = in_range v variable in
    let adds = seen_adds (seen_in t.seen) (seen_in c.set.new.self) 268435455 v range.0 range.1 (puts c) w in
    let old = ap (λ s. has s.reserved w) c.self.view_is in
    grind (arith, cases_eq)
