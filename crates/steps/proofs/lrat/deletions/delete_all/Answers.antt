use Rattle.{std.proofs.Common.arith, steps.proofs.LratLemmas.abs_more}
use Rattle.steps.proofs.lrat.deletions.delete_all.Goals as goal

pub loop-id-preserved : goal.loop-id-preserved
loop-id-preserved c = grind (arith, abs_more)
