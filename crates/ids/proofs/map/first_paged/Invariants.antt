use Rattle.{ids.specs.Code.Ids.entry_at, std.proofs.Common.{ℕ, ◌-◌, ◌<◌, ◌≡◌, ◌≤◌}}
use Rattle.ids.proofs.map.first_paged.Given as goal

abbrev pub invariant-loop-start : goal.invariant-loop-start
invariant-loop-start l = record {
  fits : l.start < 18446744073709551616;
  rises : l.from ≤ l.start;
  passed : (k : ℕ) → l.from ≤ k → k < l.start → entry_at l.directory l.pages k ≡ 0;
}

abbrev pub decreases-loop-start : goal.decreases-loop-start
decreases-loop-start l = 18446744073709551616 - l.start
