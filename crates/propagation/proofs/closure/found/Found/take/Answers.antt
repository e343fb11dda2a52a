use Rattle.propagation.proofs.PropagationLemmas.Closing.{one_follows}
use Rattle.{propagation.proofs.PropagationLemmas.Closing.one_takes, std.proofs.Common.{sym}}
use Rattle.propagation.proofs.closure.found.Found.take.Goals as goal

pub returns-in-One-clause-follows : goal.returns-in-One-clause-follows
returns-in-One-clause-follows c =
    one_follows _ _ _ _ _ (sym c.in-One.ensures) c.add.ensures.lits

pub returns-in-One-clause-takes : goal.returns-in-One-clause-takes
returns-in-One-clause-takes c = one_takes _ _ _ _ _ (sym c.in-One.ensures) c.add.ensures.lits
