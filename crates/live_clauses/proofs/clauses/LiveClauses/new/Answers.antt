use Rattle.{cnf_base.proofs.MapLemmas.sum_empty, std.proofs.Common.arith, std.proofs.Common.rules}
use Rattle.{live_clauses.proofs.ClausesLemmas.Joined.start_view, std.specs.FinMap.get-empty}
use Rattle.live_clauses.proofs.clauses.LiveClauses.new.Goals as goal

pub invariant_of-result : goal.invariant_of-result
invariant_of-result c = search (rules, arith, sum_empty, get-empty)

pub returns : goal.returns
returns c = search (rules, start_view)
