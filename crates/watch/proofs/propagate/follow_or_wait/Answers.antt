use Rattle.watch.proofs.WatchLemmas.Visits.{none_met}
use Rattle.watch.proofs.propagate.follow_or_wait.Goals as goal

pub returns-then-not-has_list-clause-met : goal.returns-then-not-has_list-clause-met
returns-then-not-has_list-clause-met c free =
    none_met _ _ _ (c.has_list.ensures.no c.if-not-has_list.true) c.requires.can.listed c.args.assumptions.now.trail.lits
