-- The steps so far were accepted, and the check goes on.
use Rattle.{cnf_base.specs.Stream.most_to_come, sat_check.proofs.CheckLemmas.Checking}
use Rattle.sat_check.proofs.check_proof.check_proof.Given as goal

abbrev pub invariant-loop-number : goal.invariant-loop-number
invariant-loop-number g l = Checking l.trace (record {
  stream = g.R.StepReader.stream l.fn.reader;
  to_come = g.R.StepReader.to_come l.fn.reader;
}) (record {
  stream = g.R.StepReader.stream l.reader;
  to_come = g.R.StepReader.to_come l.reader;
}) (g.S.ProofSession.shown l.fn.session) (g.S.ProofSession.shown l.session)
    l.accepted l.fn.lines l.lines

abbrev pub decreases-loop-number : goal.decreases-loop-number
decreases-loop-number g l = most_to_come (g.R.StepReader.stream l.reader)
