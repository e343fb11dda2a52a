-- The lowest mark is that of the first byte that is no digit.
use Rattle.cnf_base.proofs.EightLemmas.{count_is}
use Rattle.cnf_base.proofs.scanner.eight.digit_count.Goals as goal

pub returns-clause-count : goal.returns-clause-count
returns-clause-count c = λ bytes are is. count_is bytes are _ is
