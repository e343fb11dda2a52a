use Rattle.{clause_db.specs.Code.Counts.count_of, cnf_base.specs.Literals.{has, size}}
use Rattle.{std.proofs.Common.{cond, take, ℕ, ◌+◌, ◌≡◌}, tables.specs.ByKey.at}
use Rattle.clause_db.proofs.store.counts.count_all.Given as goal

abbrev pub invariant-loop-i : goal.invariant-loop-i
invariant-loop-i l = record {
  counts : (k : ℕ) → count_of (at l.counts k)
      ≡ count_of (at l.fn.counts k) + cond (has (take l.i l.lits) k) 1 0;
  different : size (take l.i l.lits) ≡ l.i;
}
