use Rattle.drat_steps.proofs.candidates.Candidates.assume_left.Goals as goal

pub returns-in-Holding : goal.returns-in-Holding
returns-in-Holding g c = rw c.in-Holding.is c.assume_rest.ensures.assumed

pub returns-in-ReducedBy : goal.returns-in-ReducedBy
returns-in-ReducedBy g c = rw c.in-ReducedBy.is c.assume_reduced.ensures.assumed
