-- The check without why it ended so, and what its report means for the bytes.
use Rattle.sat_check.proofs.TheoremLemmas.{lrat_steps_verify, lrat_unsatisfiable, weakened}
use Rattle.sat_check.proofs.lrat.run_lrat.Goals as goal

pub returns-clause-runs : goal.returns-clause-runs
returns-clause-runs g c = weakened c.run_lrat_kept.ensures (λ i j x. (x.0, x.1, x.3))

pub returns-clause-reports : goal.returns-clause-reports
returns-clause-reports g c = weakened c.run_lrat_kept.ensures (λ i j x. x.0.reports)

pub returns-clause-unsatisfiable : goal.returns-clause-unsatisfiable
returns-clause-unsatisfiable g c = lrat_unsatisfiable _ _ _ _ _ _ _ _ _ _ _ c.run_lrat_kept.ensures

pub returns-clause-steps_verify : goal.returns-clause-steps_verify
returns-clause-steps_verify g c = lrat_steps_verify _ _ _ _ _ _ _ _ _ _ _ c.run_lrat_kept.ensures
