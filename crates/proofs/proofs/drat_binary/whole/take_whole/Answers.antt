use Rattle.proofs.{proofs.WholeLemmas.{RunsOn-more, RunsOn-none}, specs.Code.Whole.IsWhole}
use Rattle.std.proofs.Common.{rules}
use Rattle.proofs.proofs.drat_binary.whole.take_whole.Goals as goal

pub loop-count-init : goal.loop-count-init
loop-count-init g c = RunsOn-none _ _ _

pub loop-count-preserved : goal.loop-count-preserved
loop-count-preserved g c =
    let whole : IsWhole c.loop-count.source.ahead c.in-Some.count c.in-Some.lit = search rules in
    let more = RunsOn-more _ _ _ _ _ _ c.loop-count.invariant whole in search rules
