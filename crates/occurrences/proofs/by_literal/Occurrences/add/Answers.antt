use Rattle.occurrences.proofs.{EntryLemmas.{reserved_known, reserved_occurs}, TestLemmas.all_weaker}
use Rattle.occurrences.{proofs.TestLemmas.{and_false, and_true}, specs.Occurrences.occurs}
use Rattle.std.proofs.Common.{ap, arith, eq-eqb, inl, inr, ne_eqb, not, sym, ◌&&◌, ◌∙◌}
use Rattle.{std.proofs.lemmas.Bool.cases_eq, tables.specs.Lists.list_at}
use Rattle.occurrences.proofs.by_literal.Occurrences.add.Goals as goal

pub invariant_of-self : goal.invariant_of-self
invariant_of-self c = grind (arith, all_weaker, reserved_known)

pub returns-in-Err-clause-err : goal.returns-in-Err-clause-err
unfolding occurs
returns-in-Err-clause-err c l s =
    let old = c.args.self.now in
    let slot = c.args.slot in
    let refused = c.push_all.new.self in
    elim (cases_eq s slot) [
      | inl e ↦
          c.forget.ensures l s ∙ ap (λ b. occurs refused l s && not b) (eq-eqb s slot e) ∙ and_false (occurs refused l s)
          ∙ sym (ap (occurs old l) e ∙ c.requires.absent l)
      | inr ne ↦
          c.forget.ensures l s ∙ ap (λ b. occurs refused l s && not b) (ne_eqb s slot ne) ∙ and_true (occurs refused l s)
          ∙ c.in-Err.ensures.others l s ne ∙ reserved_occurs old.births c.reserve.new.self c.reserve.ensures.same c.reserve.ensures.kept (list_at old.lists l) s
    ]
