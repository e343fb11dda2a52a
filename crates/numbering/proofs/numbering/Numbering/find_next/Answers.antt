use Rattle.{cnf_base.specs.Literals.variable, numbering.proofs.NumberLemmas.count_below}
use Rattle.numbering.proofs.NumberLemmas.{count_most, next_is, unmet_at}
use Rattle.{numbering.specs.Code.Numbers.number_at, std.proofs.Common.{arith, rules}}
use Rattle.numbering.proofs.numbering.Numbering.find_next.Goals as goal

pub overflow_add-next : goal.overflow_add-next
overflow_add-next c = search (rules, arith, count_most, number_at)

pub returns : goal.returns
returns c =
    let f = number_at c.self.inside.numbers in
    let v = variable c.args.l in
    let none = unmet_at f c.self.inside.count c.self.invariant.0 v (search rules) in
    let low = count_below f _ c.self.invariant.0 v none (omega arith) (omega arith) in
    let next = next_is f _ c.self.invariant.0 v none in
    search (rules, arith)
