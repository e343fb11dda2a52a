use Rattle.{clause_index.specs.Code.Chains.home, std.proofs.Common.refl}
use Rattle.clause_index.proofs.chains.home_of.Goals as goal

pub returns-clause-home : goal.returns-clause-home
unfolding home
returns-clause-home c = refl
