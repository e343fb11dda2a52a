use Rattle.clause_index.proofs.IndexLemmas.{Found.{IsNot, chain_of}, Walks.IsSearched}
use Rattle.{clause_index.specs.Code.Chains.Indexes, cnf_base.specs.Literals.Clause}
use Rattle.std.specs.{FinMap.FinMap, Ordering.nat_cmp}
use Rattle.clause_index.proofs.index.Index.find_placed.Given as goal

abbrev pub invariant-loop-step : goal.invariant-loop-step
invariant-loop-step g l = (live : FinMap nat_cmp Clause) (sound : Indexes l.self live) →
    IsSearched l.self.links.items (chain_of l.self live sound l.key)
    (IsNot l.self.seed live l.key (g.T.Sought.is l.sought)) l._step l.at
