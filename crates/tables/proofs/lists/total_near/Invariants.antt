use Rattle.{std.proofs.Common.{min, take, ◌≡◌}, tables.specs.Lists.total}
use Rattle.tables.proofs.lists.total_near.Given as goal

abbrev pub invariant-loop-list : goal.invariant-loop-list
invariant-loop-list g l =
    l.entries ≡ min (total (take l.list-index l.lists.items)) 18446744073709551615
