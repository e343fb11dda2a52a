use Rattle.{cnf_base.specs.Literals.has, std.proofs.Common.{false, take, ◌≡◌}}
use Rattle.clause_db.proofs.store.marks.is_among.Given as goal

abbrev pub invariant-loop-other : goal.invariant-loop-other
invariant-loop-other l = has (take l.other-index l.lits) l.l ≡ false
