use Rattle.{std.proofs.Common.{length, ◌≡◌}, tables.specs.Code.ByKey.IsWidened}
use Rattle.tables.proofs.by_key.ByKey.widen.Given as goal

abbrev pub invariant-loop-key : goal.invariant-loop-key
invariant-loop-key g l = record {
  len : length l.self.near.items ≡ l.key;
  widened : IsWidened l.first l.fn.self l.self;
}
