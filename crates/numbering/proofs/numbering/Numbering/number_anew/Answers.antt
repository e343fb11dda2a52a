use Rattle.{cnf_base.specs.Literals.{has, variable}, tables.specs.ByKey.at}
use Rattle.numbering.proofs.NumberLemmas.{count_most, next_at, next_invariant, next_low, next_names}
use Rattle.numbering.proofs.{NumberLemmas.{next_number, none, wrote}, RecentLemmas.recent_more}
use Rattle.{numbering.specs.Code.Numbers.number_at, std.proofs.Common.{ap, arith, rules, ◌+◌, ◌∙◌}}
use Rattle.numbering.proofs.numbering.Numbering.number_anew.Goals as goal

pub overflow_add-number : goal.overflow_add-number
overflow_add-number c = search (rules, arith, count_most, number_at)

pub invariant_of-self-2 : goal.invariant_of-self-2
invariant_of-self-2 c =
    let n = c.self.inside in
    let v = variable c.args.l in
    let key = c.var-name.ensures in
    let f = number_at n.numbers in
    let g = number_at c.set.new.self in
    let unmet = ap (λ ns. has ns v) c.self.view_is ∙ c.requires in
    let next = next_invariant (at n.numbers) (at c.reserve.new.numbers) (at c.set.new.self) n.count c.self.invariant.0 _ v key.value key.range unmet c.in_ok-reserve.ensures.same c.set.ensures in
    let no_number = none (at n.numbers) (at c.reserve.new.numbers) (at c.set.new.self) n.count c.self.invariant.0 _ v key.value key.range unmet c.in_ok-reserve.ensures.same c.set.ensures in
    let writes = wrote (at n.numbers) (at c.reserve.new.numbers) (at c.set.new.self) n.count c.self.invariant.0 _ v key.value key.range unmet c.in_ok-reserve.ensures.same c.set.ensures in
    let stands = next_at (at n.numbers) (at c.reserve.new.numbers) (at c.set.new.self) n.count c.self.invariant.0 _ v key.value key.range unmet c.in_ok-reserve.ensures.same c.set.ensures in
    let old = c.in_ok-reserve.ensures.recent f c.self.invariant.1 in
    let new = recent_more f g v (n.count + 1) c.reserve.new.recent no_number writes old in
    (next, c.note.ensures g new (omega arith) (ap g key.value ∙ stands))

pub returns-clause-names : goal.returns-clause-names
returns-clause-names c =
    let n = c.self.inside in
    let key = c.var-name.ensures in
    let names = next_names (at n.numbers) (at c.reserve.new.numbers) (at c.set.new.self) n.count c.self.invariant.0 _ (variable c.args.l) key.value key.range (search rules) c.in_ok-reserve.ensures.same c.set.ensures in
    search rules

pub returns-clause-literal : goal.returns-clause-literal
returns-clause-literal c =
    let n = c.self.inside in
    let key = c.var-name.ensures in
    let number = next_number (at n.numbers) (at c.reserve.new.numbers) (at c.set.new.self) n.count c.self.invariant.0 _ (variable c.args.l) key.value key.range (search rules) c.in_ok-reserve.ensures.same c.set.ensures in
    let low = next_low (at n.numbers) (at c.reserve.new.numbers) (at c.set.new.self) n.count c.self.invariant.0 _ (variable c.args.l) key.value key.range (search rules) c.in_ok-reserve.ensures.same c.set.ensures in
    search (rules, arith)
