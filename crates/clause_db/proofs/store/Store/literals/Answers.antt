use Rattle.{clause_db.proofs.StoreLemmas.Fields.live_alone, std.proofs.Common.arith}
use Rattle.clause_db.proofs.store.Store.literals.Goals as goal

pub returns-clause-live_alone : goal.returns-clause-live_alone
returns-clause-live_alone g c = grind (arith, live_alone _ _ _ _ c.self.invariant.0)
