use Rattle.root_literals.proofs.RootLemmas.Carried.{kept_settled, settled_all}
use Rattle.{root_literals.specs.Roots.has_conflict, std.proofs.Common.{ap, arith, rules}}
use Rattle.root_literals.proofs.starting.settle.Goals as goal

pub returns-in-Settled-clause-kept : goal.returns-in-Settled-clause-kept
returns-in-Settled-clause-kept c = search (rules, kept_settled)

pub returns-in-Settled-clause-sure : goal.returns-in-Settled-clause-sure
returns-in-Settled-clause-sure c =
    settled_all _ _ _ c.args.roots.now (record c.args.roots.now { reasons = c.look_at.new.reasons }) c.look_at.ensures.propagates c.requires.kept (ap has_conflict c.requires.cut) (grind arith)

pub returns-in-Conflict-clause-kept : goal.returns-in-Conflict-clause-kept
returns-in-Conflict-clause-kept c = search (rules, kept_settled)
