use Rattle.{cnf_base.specs.Literals.has, std.proofs.Common.{length, take, ℕ, ◌++◌, ◌≡◌}}
use Rattle.propagation.proofs.closure.found.Found.add_all.Given as goal

abbrev pub invariant-loop-l : goal.invariant-loop-l
invariant-loop-l l = record {
  lits : (k : ℕ) → has l.self k ≡ has (l.fn.self ++ take l.l-index l.clause) k;
  begins : take (length l.fn.self) l.self ≡ l.fn.self;
}
