use Rattle.{root_literals.proofs.RootLemmas.Reasons.counted_less, std.proofs.Common.arith}
use Rattle.std.proofs.{Common.length-take, Common.take-take, lemmas.Grind.get_or_default_zero}
use Rattle.root_literals.proofs.uses.Uses.cut.Goals as goal

pub loop-self-preserved-then-self-lits : goal.loop-self-preserved-then-self-lits
loop-self-preserved-then-self-lits c are =
    counted_less _ _ _ _ _ (c.loop-self.invariant are) (grind arith) (grind (arith, get_or_default_zero))

pub returns-clause-counted : goal.returns-clause-counted
returns-clause-counted c are = grind (arith, length-take, take-take)
