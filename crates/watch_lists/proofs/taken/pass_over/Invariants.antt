use Rattle.std.proofs.Common.{◌≡◌, ◌≤◌, ◌-◌, length, take}
use Rattle.watch_lists.specs.Code.Lists.{entries_with}
use Rattle.watch_lists.proofs.taken.pass_over.Given as goal

abbrev pub invariant-loop-place : goal.invariant-loop-place
invariant-loop-place l = record {
  inside : l.place ≤ length l.list;
  none : entries_with l.code (take l.from l.list) ≡ 0 → entries_with l.code (take l.place l.list) ≡ 0;
}

abbrev pub decreases-loop-place : goal.decreases-loop-place
decreases-loop-place l = length l.list - l.place
