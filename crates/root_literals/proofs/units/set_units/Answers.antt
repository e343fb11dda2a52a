use Rattle.{cnf_base.proofs.SetLemmas.has_head, std.proofs.Common.{[], ap, arith, rules, sym, ◌∙◌}}
use Rattle.{cnf_base.specs.Literals.has, root_literals.proofs.RootLemmas.Carried.propagates_unit}
use Rattle.root_literals.proofs.RootLemmas.Carried.{can_set_on, clashes, propagates_on, room_for}
use Rattle.root_literals.proofs.RootLemmas.Watched.{all_units, set_by, units_alive, units_more}
use Rattle.{tables.specs.ByKey.at, trail.proofs.TrailLemmas.Longer.has_begun}
use Rattle.root_literals.proofs.units.set_units.Goals as goal

pub set_by-requires : goal.set_by-requires
set_by-requires c = let l = c.in-Some.l in
    let member = ap (λ x. has x l) c.in-Some.ensures.one ∙ has_head l [] in
    let room = room_for (can_set_on _ _ _ _ _ _ c.loop-place.invariant.propagates c.requires.can) _ _ (sym c.clause-clause.ensures.clause) _ member in
    record { reserved = room.0; not_false = search rules; noted = room.1 }

pub loop-place-preserved : goal.loop-place-preserved
loop-place-preserved c = let live = c.args.store.now.live in let d = c.clause-clause.result.now in
    let state = c.loop-place.assumptions in let so_far = c.loop-place.invariant in
    let l = c.in-Some.l in let after = c.set_by.new.assumptions in let e = c.set_by.ensures in
    let step = propagates_unit live state c.at.result d (sym c.clause-clause.ensures.clause) l
    (grind (arith, has_head l [])) (grind arith) after c.set_by.result
    (at c.loop-place.reasons) (at c.set_by.new.reasons) (grind arith) in record {
      units = units_more _ _ _ _ _ c.loop-place-test.true (λ k h. has_begun _ _ k step.extends.begins h)
          l (grind arith) (set_by _ _ l c.set_by.result e.was_open e.lits) so_far.units;
      propagates = propagates_on _ _ _ _ _ _ _ _ _ so_far.propagates step;
    }

pub clause-clause-requires : goal.clause-clause-requires
clause-clause-requires c = grind (arith, units_alive _ _ c.requires.listed _ c.loop-place-test.true)

pub returns-then-is_false-clause-conflict : goal.returns-then-is_false-clause-conflict
returns-then-is_false-clause-conflict c = search (rules, clashes)

pub returns-clause-units : goal.returns-clause-units
returns-clause-units c = search (rules, all_units)
