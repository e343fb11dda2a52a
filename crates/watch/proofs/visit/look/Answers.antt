use Rattle.{std.proofs.Common.arith, trail.proofs.TrailLemmas.Truth.false_from_value}
use Rattle.watch.proofs.WatchLemmas.Visits.{each_false, not_false, other_member, others_false}
use Rattle.watch.proofs.visit.look.Goals as goal

pub returns-in-False-clause-visit : goal.returns-in-False-clause-visit
returns-in-False-clause-visit g c = let e = c.other_watched-other.ensures in let w = e.other in
    each_false _ _ _ w.0 w.1 e.long w.2 _ w.3 c.requires.is_false c.in-None.ensures.none
    (false_from_value _ _ c.in-False.ensures.value)

pub returns-in_default-value_of-clause-visit : goal.returns-in_default-value_of-clause-visit
returns-in_default-value_of-clause-visit g c =
    grind (arith, other_member, not_false, others_false)
