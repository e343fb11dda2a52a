use Rattle.std.proofs.Common.{length, arith}
use Rattle.clause_index.proofs.IndexLemmas.{Chains.few, Walks.not_over}
use Rattle.clause_index.proofs.chains.before.Goals as goal

pub returns-clause-none : goal.returns-clause-none
returns-clause-none c =
    let w = c.requires in
    let most = few w.0 (length c.args.links.now) w.2 w.4 in
    grind (arith, not_over)
