use Rattle.cnf_base.specs.Literals.{Literal, has}
use Rattle.propagation.{proofs.PropagationLemmas.Passes.IsPassedTo, specs.Code.Exact.Extends}
use Rattle.{std.proofs.Common.{true, ◌≡◌}, theory.specs.Propagation.Forced}
use Rattle.std.specs.FinMap as maps
use Rattle.propagation.proofs.scan.unit.run_pass.Given as goal

abbrev pub invariant-loop-number : goal.invariant-loop-number
invariant-loop-number l = record {
  sound : (k : Literal) → has l.assumptions.trail.lits k ≡ true →
      Forced (maps.get l.store.live) l.fn.assumptions.trail.lits k;
  passed : IsPassedTo (maps.get l.store.live) l.fn.assumptions.trail l.assumptions.trail.lits
      l.number l.found;
  extends : Extends l.fn.assumptions l.assumptions;
}
