use Rattle.std.proofs.Common.{◌≡◌, ◌+◌, ◌-◌, ◌≤◌, ◌++◌, take, vec_len, vec_capacity}
use Rattle.clause_memory.proofs.words.append_clause.Given as goal

abbrev pub invariant-loop-l : goal.invariant-loop-l
invariant-loop-l l = record {
  items : l.words.items ≡ l.initial.words.items ++ take l.l-index l.lits;
  room : vec_len l.words + (l.count - 1 - l.l-index) ≤ vec_capacity l.words;
}
