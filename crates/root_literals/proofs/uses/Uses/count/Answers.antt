use Rattle.std.proofs.{Common.arith, Common.refl, lemmas.Grind.get_or_default_zero}
use Rattle.root_literals.proofs.RootLemmas.Reasons.{counted_more}
use Rattle.root_literals.proofs.uses.Uses.count.Goals as goal

pub loop-self-preserved : goal.loop-self-preserved
loop-self-preserved c =
    counted_more _ _ _ _ _ c.loop-self.invariant c.loop-self-test.true refl (grind (arith, get_or_default_zero))
