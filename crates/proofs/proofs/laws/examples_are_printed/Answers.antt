-- The examples of printed texts.
use Rattle.std.{proofs.Common.refl, proofs.Common.arith, proofs.Common.rules, specs.Fmt.digits}
use Rattle.proofs.proofs.laws.examples_are_printed.Goals as goal

pub returns : goal.returns
unfolding digits
returns c = (search rules, refl, refl, λ h h2 h3. grind arith, refl)
