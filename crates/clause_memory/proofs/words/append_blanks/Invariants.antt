use Rattle.std.proofs.Common.{◌≡◌, ◌+◌, ◌-◌, ◌≤◌, ◌++◌, vec_len, vec_capacity}
use Rattle.clause_memory.specs.Code.Cells.{blanks}
use Rattle.clause_memory.proofs.words.append_blanks.Given as goal

abbrev pub invariant-loop-added : goal.invariant-loop-added
invariant-loop-added l = record {
  items : l.words.items ≡ l.initial.words.items ++ blanks l._added;
  room : vec_len l.words + (l.count - l._added) ≤ vec_capacity l.words;
}
