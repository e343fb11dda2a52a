use Rattle.{cnf_base.specs.Literals.has, std.proofs.Common.unwrap_or, tables.specs.ByKey.at}
use Rattle.std.proofs.Common.{cond, take, ℕ, ◌+◌, ◌≤◌}
use Rattle.root_literals.proofs.uses.release.Given as goal

abbrev pub invariant-loop-l : goal.invariant-loop-l
invariant-loop-l l = (k : ℕ) → unwrap_or (at l.fn.counts k) 0
    ≤ unwrap_or (at l.counts k) 0 + cond (has (take l.l-index l.lits) k) 1 0
