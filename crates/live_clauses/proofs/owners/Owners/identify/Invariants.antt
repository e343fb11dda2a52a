use Rattle.std.proofs.Common.{◌≡◌, ◌+◌, ◌-◌, ◌≤◌, length, map, take, vec_len, vec_capacity}
use Rattle.live_clauses.specs.Code.LiveClauses.{owner_at}
use Rattle.live_clauses.proofs.owners.Owners.identify.Given as goal

abbrev pub invariant-loop-slot : goal.invariant-loop-slot
invariant-loop-slot l = record {
  room : vec_len l.into + (length l.slots - l.slot-index) ≤ vec_capacity l.into;
  items : l.into.items ≡ map (owner_at l.self) (take l.slot-index l.slots);
}
