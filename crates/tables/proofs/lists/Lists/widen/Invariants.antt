use Rattle.{std.proofs.Common.{length, ◌≡◌}, tables.specs.Code.Lists.AreSame}
use Rattle.tables.proofs.lists.Lists.widen.Given as goal

abbrev pub invariant-loop-key : goal.invariant-loop-key
invariant-loop-key g l = record {
  len : length l.self.near.items ≡ l.key;
  same : AreSame l.fn.self l.self;
}
