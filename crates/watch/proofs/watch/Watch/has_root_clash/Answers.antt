use Rattle.root_literals.proofs.RootLemmas.Reasons.{reasoned_forced}
use Rattle.root_literals.proofs.RootLemmas.Carried.{kept_clash, no_clash, roots_part}
use Rattle.{std.proofs.Common.{[], arith, subst, sym, ◌∙◌}, theory.specs.Propagation.Clash}
use Rattle.std.specs.FinMap as maps
use Rattle.watch.proofs.watch.Watch.has_root_clash.Goals as goal

pub returns-clause-clash : goal.returns-clause-clash
returns-clause-clash c is = let kept = c.self.invariant.0.kept in
    subst (λ w. Clash (maps.get w.propagation.live) []) c.self.view_is (kept_clash _ _ _ (sym c.has_conflict.ensures ∙ is) (grind (arith, reasoned_forced)) kept.known)

pub returns-clause-quiet : goal.returns-clause-quiet
returns-clause-quiet c up quiet clash = let i = c.self.inside in let held = i.assumptions in
    no_clash i.store.live i.roots _ held.trail.lits
    (roots_part held.trail.lits held.assumptions held.starts) c.recall_invariant.ensures.different
    (grind arith) c.self.invariant.0.kept (grind arith) (sym c.has_conflict.ensures ∙ quiet)
    (subst (λ w. Clash (maps.get w.propagation.live) []) (sym c.self.view_is) clash)
