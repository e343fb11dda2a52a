use Rattle.root_literals.proofs.RootLemmas.Carried.{kept_started, visited_grown}
use Rattle.{root_literals.specs.Roots.has_conflict, std.proofs.Common.{ap, arith, refl}}
use Rattle.root_literals.proofs.starting.start.Goals as goal

pub returns-in-Some-set_units-clause-kept : goal.returns-in-Some-set_units-clause-kept
returns-in-Some-set_units-clause-kept c =
    kept_started _ _ _ _ _ c.set_units.ensures.propagates c.settle.ensures.kept (ap has_conflict c.settle.ensures.cut) refl (grind arith) refl (grind arith)

pub returns-in-None-clause-kept : goal.returns-in-None-clause-kept
returns-in-None-clause-kept c =
    kept_started _ _ _ _ _ c.set_units.ensures.propagates c.settle.ensures.kept (ap has_conflict c.settle.ensures.cut) refl (grind arith) refl (grind (arith, visited_grown))
