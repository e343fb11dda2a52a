-- The clauses so far are met.
use Rattle.{cnf_base.specs.Stream.most_to_come, sat_check.proofs.ModelLemmas.Judging}
use Rattle.sat_check.proofs.judge.judge_clauses.Given as goal

abbrev pub invariant-loop-clause : goal.invariant-loop-clause
invariant-loop-clause g l = Judging l.model l.fn.reader l.reader l.met

abbrev pub decreases-loop-clause : goal.decreases-loop-clause
decreases-loop-clause g l = most_to_come l.reader.stream
