use Rattle.std.proofs.Common.{Some, take, true, ◌≡◌, ◌≢◌}
use Rattle.{cnf_base.specs.Literals.Literal, cnf_base.specs.Literals.has, tables.specs.ByKey.at}
use Rattle.root_literals.proofs.made_true.made_true_by.Given as goal

abbrev pub invariant-loop-l : goal.invariant-loop-l
invariant-loop-l l = record {
  none : (x : Literal) → has (take l.l-index l.clause) x ≡ true →
      has l.trail.lits x ≡ true → at l.reasons x ≢ Some l.slot;
}
