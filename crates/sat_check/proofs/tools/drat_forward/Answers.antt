-- The options are those that the words ask for.
use Rattle.sat_check.proofs.TheoremLemmas.{drat_steps_verify, drat_unsatisfiable, weakened}
use Rattle.sat_check.proofs.tools.drat_forward.Goals as goal

pub returns-clause-runs : goal.returns-clause-runs
returns-clause-runs g c = rw c.of-options.ensures at c.run_drat_kept-session.ensures

pub returns-clause-unsatisfiable : goal.returns-clause-unsatisfiable
returns-clause-unsatisfiable g c = drat_unsatisfiable c.of-options.result _ _ _ _ _ _ _ _ _ _
    (weakened c.run_drat_kept-session.ensures (λ i j x. x.0.reports))

pub returns-clause-steps_verify : goal.returns-clause-steps_verify
returns-clause-steps_verify g c = rw c.of-options.ensures at
    (drat_steps_verify c.of-options.result _ _ _ _ _ _ _ _ _ _
    (weakened c.run_drat_kept-session.ensures (λ i j x. x.0.reports)))
