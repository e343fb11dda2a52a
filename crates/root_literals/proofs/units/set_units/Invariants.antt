use Rattle.std.proofs.Common.{Some, take, true, ℕ, ◌≡◌}
use Rattle.{cnf_base.specs.Literals.Clause, cnf_base.specs.Literals.has, tables.specs.ByKey.at}
use Rattle.root_literals.specs.{Code.Propagated.PropagatesTo, Watched.HasUnit}
use Rattle.std.specs.FinMap as maps
use Rattle.root_literals.proofs.units.set_units.Given as goal

abbrev pub invariant-loop-place : goal.invariant-loop-place
invariant-loop-place l = record {
  units : (s : ℕ) → has (take l.place l.slots) s ≡ true → (c : Clause) →
      maps.get l.store.live s ≡ Some c → HasUnit c l.assumptions.trail.lits;
  propagates :
      PropagatesTo l.store.live l.store.live l.fn.assumptions l.assumptions (at l.fn.reasons)
      (at l.reasons);
}
