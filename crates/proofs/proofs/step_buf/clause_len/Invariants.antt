use Rattle.std.proofs.Common.{◌≡◌, ◌+◌, ◌==◌, not, drop, length, take_while}
use Rattle.proofs.proofs.step_buf.clause_len.Given as goal

abbrev pub invariant-loop-l : goal.invariant-loop-l
invariant-loop-l l = record {
  len : l.len ≡ 1 + l.l-index;
  before : length (take_while (λ k. not (k == l.first)) l.rest)
      ≡ l.l-index + length (take_while (λ k. not (k == l.first)) (drop l.l-index l.rest));
}
