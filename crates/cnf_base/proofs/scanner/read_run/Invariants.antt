-- The bytes so far are a run, and are known.
use Rattle.std.proofs.Common.{List, ℕ}
use Rattle.cnf_base.{specs.Stream.most_to_come, proofs.RunLemmas.InRun}
use Rattle.cnf_base.proofs.scanner.read_run.Given as goal

abbrev pub invariant-loop-byte : goal.invariant-loop-byte
invariant-loop-byte g l = (run : List ℕ) × InRun l.fn.source l.source run × g.W.Run.is_of l.run run

abbrev pub decreases-loop-byte : goal.decreases-loop-byte
decreases-loop-byte g l = most_to_come l.source
