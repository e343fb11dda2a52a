use Rattle.{cnf_base.specs.Literals.complement, root_literals.proofs.RootLemmas.Watched.set_by}
use Rattle.{cnf_base.specs.Literals.has, std.proofs.Common.{Some, ap, arith, rules, sym, ◌∙◌, ◌≡◌}}
use Rattle.root_literals.proofs.RootLemmas.{Carried.{propagates_unit, room_for}, Watched.left_unit}
use Rattle.std.specs.FinMap as maps
use Rattle.root_literals.proofs.doubts.look.Goals as goal

pub set_by-requires : goal.set_by-requires
set_by-requires c = let d = c.in-Some.clause.now in let m = c.in-One.l in
    let here : maps.get c.args.store.now.live c.args.slot ≡ Some d = search rules in
    let unit = left_unit c.trail-2.result.now.lits d m c.in-One.ensures in
    let room = room_for c.requires c.args.slot d here m unit.0 in
    let is_open = ap (λ t. has t.lits (complement m)) (sym c.trail-2.ensures) ∙ unit.1 in
    record { reserved = room.0; not_false = is_open; noted = room.1 }

pub returns-in-One-clause-propagates : goal.returns-in-One-clause-propagates
returns-in-One-clause-propagates c = let d = c.in-Some.clause.now in let m = c.in-One.l in
    let here : maps.get c.args.store.now.live c.args.slot ≡ Some d = search rules in
    let unit = left_unit c.trail-2.result.now.lits d m c.in-One.ensures in
    propagates_unit _ _ _ d here m unit.0 (grind arith) _ c.set_by.result _ _ (grind arith)

pub returns-in-One-clause-looked : goal.returns-in-One-clause-looked
returns-in-One-clause-looked c s among clause is l _ = search (rules, left_unit, set_by)
