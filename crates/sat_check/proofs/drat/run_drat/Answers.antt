-- The check without why it ended so, and what its report means for the bytes.
use Rattle.sat_check.proofs.TheoremLemmas.{drat_steps_verify, drat_unsatisfiable, weakened}
use Rattle.sat_check.proofs.drat.run_drat.Goals as goal

pub returns-clause-runs : goal.returns-clause-runs
returns-clause-runs g c = weakened c.run_drat_kept.ensures (λ i j x. (x.0, x.1, x.3))

pub returns-clause-reports : goal.returns-clause-reports
returns-clause-reports g c = weakened c.run_drat_kept.ensures (λ i j x. x.0.reports)

pub returns-clause-unsatisfiable : goal.returns-clause-unsatisfiable
returns-clause-unsatisfiable g c = drat_unsatisfiable c.args.options.now _ _ _ _ _ _ _ _ _ _
    (weakened c.run_drat_kept.ensures (λ i j x. x.0.reports))

pub returns-clause-steps_verify : goal.returns-clause-steps_verify
returns-clause-steps_verify g c = drat_steps_verify c.args.options.now _ _ _ _ _ _ _ _ _ _
    (weakened c.run_drat_kept.ensures (λ i j said. said.0.reports))
