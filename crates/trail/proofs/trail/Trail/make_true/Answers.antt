use Rattle.{std.proofs.Common.arith, theory.proofs.PropagationLemmas.Conflicts.quiet_push}
use Rattle.trail.proofs.TrailLemmas.MakesFalse.{no_conflict}
use Rattle.trail.proofs.trail.Trail.make_true.Goals as goal

pub returns-then-is_open-clause-quiet : goal.returns-then-is_open-clause-quiet
returns-then-is_open-clause-quiet c = grind (arith, quiet_push, no_conflict)

pub returns-else-is_open-clause-quiet : goal.returns-else-is_open-clause-quiet
returns-else-is_open-clause-quiet c = no_conflict c.args.self.now.lits c.value.ensures.different
