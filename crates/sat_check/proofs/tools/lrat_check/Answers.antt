-- The options are those that the words ask for.
use Rattle.sat_check.proofs.TheoremLemmas.{lrat_steps_verify, lrat_unsatisfiable}
use Rattle.sat_check.proofs.tools.lrat_check.Goals as goal

pub returns-clause-runs : goal.returns-clause-runs
returns-clause-runs g c = rw c.of.ensures at c.run_lrat_kept-session.ensures

pub returns-clause-unsatisfiable : goal.returns-clause-unsatisfiable
returns-clause-unsatisfiable g c =
    lrat_unsatisfiable _ _ _ _ _ _ _ _ _ _ _ c.run_lrat_kept-session.ensures

pub returns-clause-steps_verify : goal.returns-clause-steps_verify
returns-clause-steps_verify g c =
    lrat_steps_verify _ _ _ _ _ _ _ _ _ _ _ c.run_lrat_kept-session.ensures
