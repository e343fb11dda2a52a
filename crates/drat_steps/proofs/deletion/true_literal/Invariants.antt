use Rattle.{cnf_base.specs.Literals.has, propagation.specs.Assumptions.assumed_by}
use Rattle.{std.proofs.Common.{take, true, ℕ, ◌≡◌}, theory.specs.Propagation.Forced}
use Rattle.std.specs.FinMap as maps
use Rattle.drat_steps.proofs.deletion.true_literal.Given as goal

abbrev pub invariant-loop-l : goal.invariant-loop-l
invariant-loop-l g l =
    let state = g.P.Propagate.state l.clauses in (x : ℕ) → has (take l.l-index l.l-items) x ≡ true →
    ¬ Forced (maps.get state.live) (assumed_by state.assumptions) x
