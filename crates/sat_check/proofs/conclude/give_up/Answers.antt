use Rattle.sat_check.proofs.OutcomeLemmas.{Outcome-refused}
use Rattle.sat_check.proofs.conclude.give_up.Goals as goal

pub returns-clause-outcome : goal.returns-clause-outcome
returns-clause-outcome g c = λ r. Outcome-refused _ _ r c.finish.ensures.writes
