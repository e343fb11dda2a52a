use Rattle.{std.proofs.Common.arith, theory.proofs.PropagationLemmas.Forced.clash_through}
use Rattle.trail.proofs.TrailLemmas.{Left.{settled_closed, settled_quiet}, Longer.has_begun}
use Rattle.trail.proofs.TrailLemmas.MakesFalse.{no_conflict}
use Rattle.propagation.proofs.scan.unit.propagate.Goals as goal

pub returns-in-Conflict-clause-answer : goal.returns-in-Conflict-clause-answer
returns-in-Conflict-clause-answer c =
    clash_through _ _ _ c.loop-assumptions.invariant.sound c.in-Conflict.ensures.pass

pub loop-assumptions-smaller : goal.loop-assumptions-smaller
loop-assumptions-smaller c =
    c.in-Changed.ensures.pass c.args.assumptions.now.trail.reserved (λ v h. grind arith)

pub returns-in-Quiet-clause-answer : goal.returns-in-Quiet-clause-answer
returns-in-Quiet-clause-answer c =
    let before = c.args.assumptions.now.trail.lits in
    settled_quiet _ _ c.in-Quiet.ensures.pass.1 before
    (λ l h. has_begun before _ l c.loop-assumptions.invariant.extends.begins h)
    (grind (arith, no_conflict))

pub returns-in-Quiet-clause-closed : goal.returns-in-Quiet-clause-closed
returns-in-Quiet-clause-closed c = λ _. let quiet = c.in-Quiet.ensures.pass in
    simp quiet.0 (settled_closed _ _ quiet.1)
