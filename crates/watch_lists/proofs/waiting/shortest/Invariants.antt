use Rattle.std.proofs.Common.{◌<◌, length}
use Rattle.watch_lists.proofs.waiting.shortest.Given as goal

abbrev pub invariant-loop-place : goal.invariant-loop-place
invariant-loop-place l = l.least < length l.waiters
