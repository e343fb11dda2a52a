use Rattle.{cnf_base.specs.Literals.size, std.proofs.Common.{take, ◌≡◌}}
use Rattle.clause_db.proofs.store.marks.are_different.Given as goal

abbrev pub invariant-loop-i : goal.invariant-loop-i
invariant-loop-i l = size (take l.i l.lits) ≡ l.i
