use Rattle.std.proofs.Common.{rules}
use Rattle.clause_db.proofs.StoreLemmas.Options.{if_none_then, if_some_then}
use Rattle.propagation.proofs.PropagationLemmas.SameClauses.{kept_has_at, live_has_at}
use Rattle.propagation.proofs.propagate.Propagate.next_with.Goals as goal

pub returns-clause-found : goal.returns-clause-found
returns-clause-found g c =
    let live = (g.Self.Propagate.state c.args.self.now).live in
    if_some_then c.first_with.result (λ slot h. (h.0, live_has_at live c.store.result.now.live c.store.ensures.live c.args.l slot h.1)) c.first_with.ensures.found

pub returns-clause-passed_over : goal.returns-clause-passed_over
returns-clause-passed_over g c = search (rules, if_some_then, kept_has_at)

pub returns-clause-none : goal.returns-clause-none
returns-clause-none g c = search (rules, if_none_then, kept_has_at)
