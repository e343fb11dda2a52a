use Rattle.{propagation.specs.Assumptions.HasAt, std.proofs.Common.{ℕ, ◌<◌, ◌≤◌}}
use Rattle.std.specs.FinMap as maps
use Rattle.propagation.proofs.first_with.first_with.Given as goal

abbrev pub invariant-loop-number : goal.invariant-loop-number
invariant-loop-number g l = (s : ℕ) → l.fn.from ≤ s → s < l.number →
    HasAt (maps.get l.store.live) l.l s → ⊥
