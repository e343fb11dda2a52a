use Rattle.clause_db.proofs.StoreLemmas.Options.{if_none_then, if_some_then}
use Rattle.cnf_base.proofs.SetLemmas.{same_from, same_trans}
use Rattle.root_literals.proofs.RootLemmas.Reasons.{same-in_order, seen_there, there_seen}
use Rattle.{root_literals.specs.Order.in_order, std.proofs.Common.arith}
use Rattle.watch.proofs.watch.WatchPropagate.find.Goals as goal

pub returns-clause-found : goal.returns-clause-found
returns-clause-found c = if_some_then c.find.result (λ slot h. (
  in_order h.0,
  grind (arith, seen_there),
  same_trans (in_order h.0) h.0 c.args.lits.now (same-in_order h.0) h.2,
)) c.find.ensures.found

pub returns-clause-none : goal.returns-clause-none
returns-clause-none c = let live = c.self.inside.store.live in
    if_none_then c.find.result c.find.ensures.none (λ h s d there same.
    let w = there_seen live s d (grind arith) in
    h s w.0 w.1 (same_trans w.0 d c.args.lits.now (grind (arith, same_from)) same))
