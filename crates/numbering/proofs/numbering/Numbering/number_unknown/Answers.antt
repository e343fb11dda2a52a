use Rattle.{cnf_base.specs.Literals.variable, numbering.proofs.NumberLemmas.{is_none, is_unmet}}
use Rattle.{numbering.specs.Code.Numbers.number_at, std.proofs.Common.rules}
use Rattle.numbering.proofs.numbering.Numbering.number_unknown.Goals as goal

pub number_anew-requires : goal.number_anew-requires
number_anew-requires c =
    let f = number_at c.self.inside.numbers in
    let none = is_none f _ c.self.invariant.0 (variable c.args.l) c.get_or-number.result in
    search (rules, is_unmet, none)
