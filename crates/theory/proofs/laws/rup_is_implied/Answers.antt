use Rattle.theory.proofs.LawLemmas.Truth.{rup_true}
use Rattle.theory.proofs.laws.rup_is_implied.Goals as goal

pub returns : goal.returns
returns c = rup_true
