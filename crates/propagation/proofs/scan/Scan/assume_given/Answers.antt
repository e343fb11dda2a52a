use Rattle.{propagation.proofs.PropagationLemmas.Scan.assuming_from, std.proofs.Common.arith}
use Rattle.std.proofs.Common.{refl}
use Rattle.propagation.proofs.scan.Scan.assume_given.Goals as goal

pub returns-clause-assumed : goal.returns-clause-assumed
returns-clause-assumed g c =
    assuming_from _ _ _ c.reserve.new.self _ _ _ _ (grind arith) (grind arith) refl (grind arith)
    refl c.self.invariant.1 refl c.is_err-self-inside.ensures.value
    c.assume_part-assumed.ensures.assumed
