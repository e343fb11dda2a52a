use Rattle.{cnf_base.proofs.SetLemmas.same_there, drat_steps.proofs.DratLemmas.Losses.not_forced}
use Rattle.{cnf_base.proofs.WalkLemmas.has_more, propagation.specs.Assumptions.assumed_by}
use Rattle.drat_steps.proofs.deletion.true_literal.Goals.{in-True, in_default}
use Rattle.{std.proofs.Common.{arith, eqb-true, inl, inr, subst}, theory.specs.Propagation.Forced}
use Rattle.std.proofs.lemmas.{Bool.{false≢true, or_cases}, List.take_all, Option.same_Some}
use Rattle.drat_steps.proofs.deletion.true_literal.Goals as goal
use Rattle.std.specs.FinMap as maps

pub loop-l-preserved : goal.loop-l-preserved
loop-l-preserved g c x h =
    let state = g.P.Propagate.state _ in let item = c.l-item.result in
    elim (or_cases _ _ (grind (arith, has_more))) [
      | inl before ↦ c.loop-l.invariant x before
      | inr here ↦ subst (λ k. ¬ Forced (maps.get state.live) (assumed_by state.assumptions) k)
          (eqb-true item x here) (not_forced _ _ _ _ c.requires.no_clash c.value.ensures
          (grind (arith, in-True, false≢true, in_default)))
    ]

pub returns-clause-none : goal.returns-clause-none
returns-clause-none g c d l there member = grind (arith, same_Some, take_all, same_there)
