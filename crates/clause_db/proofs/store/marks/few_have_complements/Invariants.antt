use Rattle.{clause_db.specs.Store.is_tautology, std.proofs.Common.{false, take, ◌≡◌}}
use Rattle.clause_db.proofs.store.marks.few_have_complements.Given as goal

abbrev pub invariant-loop-i : goal.invariant-loop-i
invariant-loop-i l = is_tautology (take l.i l.lits) ≡ false
