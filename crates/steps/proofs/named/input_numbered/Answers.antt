use Rattle.{std.proofs.Common.arith, steps.proofs.NamingLemmas.{input_given, input_named}}
use Rattle.steps.proofs.named.input_numbered.Goals as goal

pub returns-clause-given : goal.returns-clause-given
returns-clause-given g c = grind (arith, input_given)

pub returns-clause-state : goal.returns-clause-state
returns-clause-state g c = grind (arith, input_named)
