use Rattle.{cnf_base.specs.Literals.{Literal, has}, theory.specs.Propagation.Forced}
use Rattle.{propagation.specs.Code.{Exact.Extends, Passes.unset}, std.proofs.Common.{true, ◌≡◌}}
use Rattle.std.specs.FinMap as maps
use Rattle.propagation.proofs.scan.unit.propagate.Given as goal

abbrev pub invariant-loop-assumptions : goal.invariant-loop-assumptions
invariant-loop-assumptions l = record {
  sound : (k : Literal) → has l.assumptions.trail.lits k ≡ true →
      Forced (maps.get l.store.live) l.fn.assumptions.trail.lits k;
  extends : Extends l.fn.assumptions l.assumptions;
}

abbrev pub decreases-loop-assumptions : goal.decreases-loop-assumptions
decreases-loop-assumptions l = unset l.assumptions.trail.lits l.fn.assumptions.trail.reserved
