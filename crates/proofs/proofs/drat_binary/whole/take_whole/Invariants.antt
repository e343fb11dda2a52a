use Rattle.{cnf_base.specs.Stream.most_to_come, proofs.specs.{Binary.in_step, Code.Whole.RunsOn}}
use Rattle.proofs.proofs.drat_binary.whole.take_whole.Given as goal

abbrev pub invariant-loop-count : goal.invariant-loop-count
invariant-loop-count g l = RunsOn in_step l.fn.source l.source l.fn.step l.step

abbrev pub decreases-loop-count : goal.decreases-loop-count
decreases-loop-count g l = most_to_come l.source
