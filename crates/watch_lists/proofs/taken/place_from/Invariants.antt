use Rattle.{std.proofs.Common.{take, ◌≡◌}, watch_lists.specs.Code.Lists.entries_with}
use Rattle.watch_lists.proofs.taken.place_from.Given as goal

abbrev pub invariant-loop-place : goal.invariant-loop-place
invariant-loop-place l = record { none : entries_with l.code (take l.place l.list) ≡ 0 }
