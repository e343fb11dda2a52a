use Rattle.std.proofs.Common.{rules}
use Rattle.live_clauses.proofs.id_set.IdSet.insert.Goals as goal

pub returns-clause-ids : goal.returns-clause-ids
returns-clause-ids c = λ k. search rules
