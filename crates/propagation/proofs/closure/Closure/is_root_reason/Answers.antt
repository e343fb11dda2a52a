use Rattle.propagation.proofs.PropagationLemmas.Closing.{no_reason_left, reason_left}
use Rattle.std.proofs.{Common.{ap, arith, subst, sym, ◌∙◌}, lemmas.Option.same_Some}
use Rattle.{theory.specs.Propagation.IsRootReason, trail.specs.Left.is_one_at_most}
use Rattle.std.specs.FinMap as maps
use Rattle.propagation.proofs.closure.Closure.is_root_reason.Goals as goal

pub returns-clause-yes : goal.returns-clause-yes
returns-clause-yes g c is_reason clause here =
    let at = c.clause-clause.ensures.clause ∙ ap (λ s. maps.get s.live c.args.slot) c.take_whole.ensures.same in
    let kept = c.clause-clause.result.now in
    let left = sym (c.is_one_at_most-is_reason.ensures ∙ ap (λ left. is_one_at_most left kept) c.left.ensures) ∙ is_reason in
    subst (IsRootReason _) (same_Some _ _ (at ∙ here))
    (reason_left _ _ _ _ (sym at) c.in_ok-found.ensures.whole.sound left)

pub returns-clause-no : goal.returns-clause-no
returns-clause-no g c is_none clause here =
    let at = c.clause-clause.ensures.clause ∙ ap (λ s. maps.get s.live c.args.slot) c.take_whole.ensures.same in
    simp (same_Some _ _ (at ∙ here)) at
    (no_reason_left _ _ _ _ (sym at) c.in_ok-found.ensures.whole.all (grind arith))
