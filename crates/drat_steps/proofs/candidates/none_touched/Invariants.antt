use Rattle.{cnf_base.specs.Literals.{complement, has}, propagation.specs.Assumptions.HasAt}
use Rattle.std.proofs.Common.{take, true, ℕ, ◌≡◌}
use Rattle.std.specs.FinMap as maps
use Rattle.drat_steps.proofs.candidates.none_touched.Given as goal

abbrev pub invariant-loop-l : goal.invariant-loop-l
invariant-loop-l g l = (x : ℕ) → has (take l.l-index l.lits) x ≡ true → (s : ℕ) →
    HasAt (maps.get (g.P.Propagate.state l.clauses).live) (complement x) s → ⊥
