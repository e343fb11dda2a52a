use Rattle.propagation.proofs.PropagationLemmas.HasAt.{lacks_next}
use Rattle.propagation.proofs.first_with.first_with.Goals as goal

pub loop-number-preserved : goal.loop-number-preserved
loop-number-preserved g c =
    lacks_next _ _ _ _ c.loop-number.invariant (c.has_at.ensures.no c.if-has_at.false)
