use Rattle.std.proofs.Common.{◌≡◌, ◌+◌, ◌-◌, ◌≤◌, ◌++◌, vec_len, vec_capacity, replicate}
use Rattle.clause_memory.specs.declared.kind.Kind.TheVariants.{Rest}
use Rattle.clause_memory.proofs.room.append_kinds.Given as goal

abbrev pub invariant-loop-added : goal.invariant-loop-added
invariant-loop-added l = record {
  items : l.kinds.items ≡ l.initial.kinds.items ++ replicate (l._added - 1) Rest;
  room : vec_len l.kinds + (l.count - l._added) ≤ vec_capacity l.kinds;
}
