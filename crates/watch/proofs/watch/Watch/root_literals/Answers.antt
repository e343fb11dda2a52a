use Rattle.root_literals.proofs.RootLemmas.Reasons.{reasoned_forced}
use Rattle.{cnf_base.specs.Literals.has, propagation.specs.Assumptions.roots_in}
use Rattle.{root_literals.proofs.RootLemmas.Carried.{all_forced, roots_part}, std.proofs.Common.[]}
use Rattle.{std.proofs.Common.{ap, arith, subst, take, ◌∙◌}, theory.specs.Propagation.Forced}
use Rattle.std.specs.FinMap as maps
use Rattle.watch.proofs.watch.Watch.root_literals.Goals as goal

pub returns-clause-sound : goal.returns-clause-sound
returns-clause-sound c l h =
    let i = c.self.inside in
    let held = i.assumptions in
    let lits = roots_in held.trail.lits held.assumptions held.starts in
    let shown = c.root_count.ensures.roots ∙ ap (take c.root_count.result) (grind arith) in
    subst (λ w. Forced (maps.get w.propagation.live) [] l) c.self.view_is (reasoned_forced _ _ lits c.self.invariant.0.kept.reasoned l (ap (λ ls. has ls l) shown ∙ h))

pub returns-clause-all : goal.returns-clause-all
returns-clause-all c up quiet l forced = grind (arith, all_forced, roots_part)
