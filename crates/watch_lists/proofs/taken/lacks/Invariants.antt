use Rattle.{std.proofs.Common.{take, true, ◌≡◌}, watch_lists.specs.Code.Lists.entries_with}
use Rattle.watch_lists.proofs.taken.lacks.Given as goal

abbrev pub invariant-loop-place : goal.invariant-loop-place
invariant-loop-place l =
    record { none : l.is_absent ≡ true → entries_with l.code (take l.place l.list) ≡ 0 }
