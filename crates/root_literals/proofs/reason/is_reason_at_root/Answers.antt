use Rattle.{cnf_base.specs.Literals.has, root_literals.proofs.RootLemmas.Reasons.reasoned_forced}
use Rattle.propagation.proofs.PropagationLemmas.Closing.{no_reason_left, reason_left}
use Rattle.root_literals.proofs.RootLemmas.{Carried.all_forced, Shown.{forced_held, forced_shown}}
use Rattle.{std.proofs.Common.{ap, arith, subst, sym, ◌∙◌}, theory.specs.Propagation.IsRootReason}
use Rattle.{std.proofs.lemmas.Option.same_Some, trail.specs.Left.is_one_at_most}
use Rattle.std.specs.FinMap as maps
use Rattle.root_literals.proofs.reason.is_reason_at_root.Goals as goal

pub returns-clause-yes : goal.returns-clause-yes
returns-clause-yes c is_reason clause at = let live = c.args.store.now.live in
    let kept = c.clause-clause.result.now in let here = c.clause-clause.ensures.clause in
    subst (IsRootReason (maps.get live)) (same_Some kept clause (here ∙ at))
    (reason_left (maps.get live) c.trail-trail.result.now.lits c.args.slot kept (sym here)
    (grind (arith, forced_held, reasoned_forced))
    (grind arith))

pub returns-clause-no : goal.returns-clause-no
returns-clause-no c is_none clause at = let live = c.args.store.now.live in
    let held = c.args.assumptions.now in let kept = c.clause-clause.result.now in
    let here = c.clause-clause.ensures.clause in let lits = held.trail.lits in
    let apart = simp c.trail-trail.ensures at c.len-different.ensures.different in
    subst (λ d. ¬ IsRootReason (maps.get live) d) (same_Some kept clause (here ∙ at))
    (no_reason_left (maps.get live) c.trail-trail.result.now.lits c.args.slot kept (sym here)
    (λ l forced. ap (λ t. has t.lits l) c.trail-trail.ensures
    ∙ all_forced live c.args.roots.now lits lits (λ l h. h) c.recall_invariant.ensures.different apart
    c.requires.kept c.requires.up_to_date (grind arith) l (forced_shown live l forced))
    (sym (c.is_one_at_most.ensures ∙ ap (λ left. is_one_at_most left kept) c.left.ensures) ∙ is_none))
