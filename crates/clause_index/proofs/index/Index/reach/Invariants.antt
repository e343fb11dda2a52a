use Rattle.{clause_index.specs.Code.Chains.Indexes, cnf_base.specs.Literals.Clause}
use Rattle.std.{proofs.Common.{length, ◌≡◌}, specs.{FinMap.FinMap, Ordering.nat_cmp}}
use Rattle.clause_index.proofs.index.Index.reach.Given as goal

abbrev pub invariant-loop-next : goal.invariant-loop-next
invariant-loop-next l = record {
  len : length l.self.links.items ≡ l.next;
  heads : l.self.heads ≡ l.fn.self.heads;
  placed : l.self.placed ≡ l.fn.self.placed;
  seed : l.self.seed ≡ l.fn.self.seed;
  same : (live : FinMap nat_cmp Clause) → Indexes l.fn.self live → Indexes l.self live;
}
