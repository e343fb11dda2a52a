-- Digits are joined to pairs, these to fours, and these to all eight.
use Rattle.cnf_base.proofs.EightLemmas.{value_is}
use Rattle.cnf_base.proofs.scanner.eight.value_of.Goals as goal

pub returns : goal.returns
returns c = λ ds are is. value_is ds are _ is
