use Rattle.{proofs.proofs.WholeLemmas.RunsOn-none, std.proofs.Common.refl}
use Rattle.proofs.proofs.drat_binary.whole.run_on.Goals as goal

pub returns-in-Tag : goal.returns-in-Tag
returns-in-Tag g c = λ spot at.
    (c.args.step.now, RunsOn-none spot c.args.source.now c.args.step.now, refl)
