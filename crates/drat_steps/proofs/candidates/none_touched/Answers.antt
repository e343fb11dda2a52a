use Rattle.cnf_base.{proofs.WalkLemmas.has_more, specs.Literals.{complement, has}}
use Rattle.{propagation.specs.Assumptions.HasAt, std.proofs.Common.{ap, arith, eqb, eqb-true, inl}}
use Rattle.std.proofs.{Common.{inr, subst, sym, take, ◌∙◌}, lemmas.{Bool.or_cases, List.take_all}}
use Rattle.std.specs.FinMap as maps
use Rattle.drat_steps.proofs.candidates.none_touched.Goals as goal

pub loop-l-preserved : goal.loop-l-preserved
loop-l-preserved g c x h s there =
    let set = c.args.lits.now in let i = c.loop-l.l-index in let item = c.l-item.result in
    let live = maps.get (g.P.Propagate.state c.args.clauses.now).live in
    elim (or_cases (has (take i set) x) (eqb item x)
    (sym (has_more set i c.loop-l-test.true item c.l-item.is x) ∙ h)) [
      | inl before ↦ c.loop-l.invariant x before s there
      | inr here ↦ c.count_with.ensures.none (omega (arith, c.if-count_with-gt0.false)) s
          (subst (λ k. HasAt live k s) (ap complement (sym (eqb-true item x here))
          ∙ sym c.neg.ensures) there)
    ]

pub returns : goal.returns
returns g c = λ _ l h s there. c.loop-l.invariant l (ap (λ ls. has ls l)
    (take_all c.loop-l.l-index c.args.lits.now c.loop-l-test.false) ∙ h) s there
