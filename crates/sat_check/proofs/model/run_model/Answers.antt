-- The placed check, without what is wrong with an input.
use Rattle.sat_check.proofs.TheoremLemmas.{weakened}
use Rattle.sat_check.proofs.model.run_model.Goals as goal

pub returns-clause-runs : goal.returns-clause-runs
returns-clause-runs g c = weakened c.run_model_placed.ensures.runs (λ i j x. (x.0, x.1))
