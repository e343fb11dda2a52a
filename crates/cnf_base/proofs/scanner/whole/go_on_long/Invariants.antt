-- The bytes so far are digits, and the number is theirs.
use Rattle.std.{proofs.Common.◌≡◌, proofs.Common.true, proofs.Common.take, specs.List.list_all}
use Rattle.cnf_base.specs.{Words.is_digit, Code.Digits.decimal_after}
use Rattle.cnf_base.proofs.scanner.whole.go_on_long.Given as goal

abbrev pub invariant-loop-count : goal.invariant-loop-count
invariant-loop-count l = record {
  each : list_all is_digit (take l.count l.bytes) ≡ true;
  says : l.size ≡ decimal_after l.number (take l.count l.bytes);
}
