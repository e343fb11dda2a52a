-- No list has changed, and the keys are near.
use Rattle.{std.proofs.Common.{length, ◌≤◌}, tables.specs.Code.Lists.AreSame}
use Rattle.tables.proofs.lists.Lists.reserve_each.Given as goal

abbrev pub invariant-loop-key : goal.invariant-loop-key
invariant-loop-key g l = record {
  near : length l.more ≤ length l.self.near.items;
  same : AreSame l.fn.self l.self;
}
