use Rattle.{clause_index.specs.Code.Chains.Indexes, cnf_base.specs.Literals.Clause}
use Rattle.std.{proofs.Common.{length, ◌<◌, ◌≡◌}, specs.{FinMap.FinMap, Ordering.nat_cmp}}
use Rattle.clause_index.proofs.index.Index.place_all.Given as goal

abbrev pub invariant-loop-slot : goal.invariant-loop-slot
invariant-loop-slot l = record {
  some : 0 < length l.self.heads.items;
  seed : l.self.seed ≡ l.fn.self.seed;
  heads : length l.self.heads.items ≡ length l.fn.self.heads.items;
  links : length l.self.links.items ≡ length l.fn.self.links.items;
  placed : l.self.placed ≡ l.slot;
  same : (live : FinMap nat_cmp Clause) → Indexes l.fn.self live → Indexes l.self live;
}
