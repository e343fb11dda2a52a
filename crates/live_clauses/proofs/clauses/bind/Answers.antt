use Rattle.{cnf_base.proofs.MapLemmas.{insert_here, insert_other}, std.proofs.Common.{arith, rules}}
use Rattle.live_clauses.proofs.clauses.bind.Goals as goal

pub returns-clause-owners : goal.returns-clause-owners
returns-clause-owners c = search (rules, arith, insert_here, insert_other)
