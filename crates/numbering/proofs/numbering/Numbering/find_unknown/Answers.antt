use Rattle.{cnf_base.specs.Literals.variable, numbering.proofs.NumberLemmas.{is_none, is_unmet}}
use Rattle.{numbering.specs.Code.Numbers.number_at, std.proofs.Common.rules}
use Rattle.numbering.proofs.numbering.Numbering.find_unknown.Goals as goal

pub find_next-requires : goal.find_next-requires
find_next-requires c =
    let f = number_at c.self.inside.numbers in
    let none = is_none f _ c.self.invariant.0 (variable c.args.l) c.get_or.result in
    search (rules, is_unmet, none)
