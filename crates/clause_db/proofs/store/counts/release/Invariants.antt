use Rattle.{clause_db.specs.Code.Counts.count_of, cnf_base.specs.Literals.has}
use Rattle.{std.proofs.Common.{cond, take, ℕ, ◌+◌, ◌≡◌}, tables.specs.ByKey.at}
use Rattle.clause_db.proofs.store.counts.release.Given as goal

abbrev pub invariant-loop-l : goal.invariant-loop-l
invariant-loop-l l = (k : ℕ) → count_of (at l.counts k) + cond (has (take l.l-index l.lits) k) 1 0
    ≡ count_of (at l.fn.counts k)
