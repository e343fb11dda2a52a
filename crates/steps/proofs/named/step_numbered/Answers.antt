use Rattle.std.proofs.Common.{arith}
use Rattle.steps.proofs.{named.step_numbered.Given.Over, NamingLemmas.Steps, NamingLemmas.steps}
use Rattle.steps.proofs.named.step_numbered.Goals as goal

shown : (g : Over) (c : goal.After-with_pivot g) → Steps c.args.numbering.now
    c.number_step.new.numbering (g.J.Judge.held c.args.judge.now)
    (g.J.Judge.held c.step-answer.new.self) c.args.lits.now c.args.step.now c.with_pivot.result
shown g c = steps _ _ _ _ _ c.as_slice.result.now _ c.step-answer.result _ c.requires.named.given
    (grind arith) (grind arith) c.step-answer.ensures.answers c.step-answer.ensures.state
    c.step-answer.ensures.lost c.with_pivot.ensures

pub returns-clause-answers : goal.returns-clause-answers
returns-clause-answers g c = (shown g c).answers

pub returns-clause-given : goal.returns-clause-given
returns-clause-given g c = (shown g c).given

pub returns-clause-state : goal.returns-clause-state
returns-clause-state g c = (shown g c).state

pub returns-clause-lost : goal.returns-clause-lost
returns-clause-lost g c = (shown g c).lost
