use Rattle.propagation.proofs.PropagationLemmas.Closing.{no_reason_left, removed_whole}
use Rattle.{std.proofs.Common.{Some, ap, rules, sym, ◌∙◌, ◌≡◌}, trail.specs.Left.is_one_at_most}
use Rattle.std.specs.FinMap as maps
use Rattle.propagation.proofs.closure.Closure.leave.Goals as goal

pub returns-else-is_one_at_most : goal.returns-else-is_one_at_most
returns-else-is_one_at_most g c =
    let at = sym c.clause-clause.ensures.clause in
    let is : c.args.self.now ≡ Some c.in-Some.found = search rules in
    let whole = simp is at c.requires.closure in
    let left = sym (c.is_one_at_most.ensures
    ∙ ap (λ left. is_one_at_most left c.clause-clause.result.now) c.left.ensures)
    ∙ c.if-is_one_at_most.false in
    let none = no_reason_left (maps.get c.args.store.now.live) _ _ _ at whole.all left in
    record { closure = simp is (removed_whole _ _ _ at _ whole none) }
