use Rattle.std.proofs.Common.{◌≡◌, ◌+◌, ◌-◌, ◌≤◌, ◌++◌, length, map, take, vec_len, vec_capacity}
use Rattle.occurrences.proofs.by_literal.push_slots.Given as goal

abbrev pub invariant-loop-entry : goal.invariant-loop-entry
invariant-loop-entry l = record {
  room : vec_len l.into + (length l.list - l.entry-index) ≤ vec_capacity l.into;
  items : l.into.items ≡ l.fn.into.items ++ map (λ e. e.slot) (take l.entry-index l.list);
}
