use Rattle.clause_index.{proofs.IndexLemmas.Found.IsNot, specs.Code.Chains.Indexes}
use Rattle.{cnf_base.specs.Literals.Clause, std.{proofs.Common.{ℕ, ◌<◌, ◌≤◌}, specs.FinMap.FinMap}}
use Rattle.std.specs.Ordering.{nat_cmp}
use Rattle.clause_index.proofs.index.Index.find_waiting.Given as goal

abbrev pub invariant-loop-slot : goal.invariant-loop-slot
invariant-loop-slot g l = (live : FinMap nat_cmp Clause) (s : ℕ) → Indexes l.self live → l.self.placed ≤ s → s < l.slot →
    IsNot l.self.seed live l.key (g.T.Sought.is l.sought) s
