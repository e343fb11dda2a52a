use Rattle.numbering.proofs.NumberLemmas.{names_empty, numbering_empty}
use Rattle.{numbering.specs.Code.Numbers.number_at, std.proofs.Common.rules}
use Rattle.numbering.proofs.numbering.Numbering.new.Goals as goal

pub invariant_of-result : goal.invariant_of-result
invariant_of-result c = (numbering_empty (number_at c.new.result) (search rules), search rules)

pub returns : goal.returns
returns c = search (rules, names_empty)
