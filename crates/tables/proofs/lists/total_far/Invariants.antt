use Rattle.std.{proofs.Common.{min, ◌+◌, ◌≡◌, ◌≤◌}, specs.BTreeMap.values}
use Rattle.tables.specs.Lists.{total}
use Rattle.tables.proofs.lists.total_far.Given as goal

abbrev pub invariant-loop-list : goal.invariant-loop-list
invariant-loop-list g l = record {
  counted : min (l.entries + total l.list-iterator) 18446744073709551615 ≡ min (total (values l.lists)) 18446744073709551615;
  most : l.entries ≤ 18446744073709551615;
}
