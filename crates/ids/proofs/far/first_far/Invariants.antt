use Rattle.{ids.specs.Code.Far.far_at, std.proofs.Common.{ℕ, ◌-◌, ◌<◌, ◌≡◌, ◌≤◌}}
use Rattle.ids.proofs.far.first_far.Given as goal

abbrev pub invariant-loop-key : goal.invariant-loop-key
invariant-loop-key l = record {
  rises : l.from ≤ l.start;
  fits : l.start < 18446744073709551616;
  passed : (k : ℕ) → l.from ≤ k → k < l.start → far_at l.far k ≡ 0;
}

abbrev pub decreases-loop-key : goal.decreases-loop-key
decreases-loop-key l = 18446744073709551616 - l.start
