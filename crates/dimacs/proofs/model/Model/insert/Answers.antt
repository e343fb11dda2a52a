use Rattle.{cnf_base.specs.Literals.{Literal, has}, std.proofs.lemmas.Grind.common_steps}
use Rattle.{dimacs.proofs.ModelLemmas.{IsConsistent-put, listed_more}, tables.specs.ByKey.at}
use Rattle.std.proofs.Common.{arith, false, rules, sym, unwrap_or, ◌∙◌, ◌∷◌, ◌≡◌}
use Rattle.dimacs.proofs.model.Model.insert.Goals as goal

-- the listed literals
listed_now : (c : goal.After-push_reserved) (k : Literal) → has c.push_reserved.new.self.items k ≡ has (c.args.lit ∷ c.self.inside.lits.items) k
listed_now c k = grind (arith, common_steps)

pub invariant_of-self-then-not-holds : goal.invariant_of-self-then-not-holds
invariant_of-self-then-not-holds c = (
  IsConsistent-put c.self.inside.lits.items _ c.args.lit c.self.invariant.0 (search rules)
      (listed_now c),
  (λ l. listed_more (λ l. unwrap_or (at c.self.inside.listed l) false)
      (λ l. unwrap_or (at c.set.new.self l) false) c.self.inside.lits.items c.args.lit
      c.self.invariant.1 (λ l. grind arith) l ∙ sym (listed_now c l)),
)

pub returns-in_ok-reserve-2-clause-consistent : goal.returns-in_ok-reserve-2-clause-consistent
returns-in_ok-reserve-2-clause-consistent c = IsConsistent-put c.self.inside.lits.items _ c.args.lit c.self.invariant.0 (search rules) (listed_now c)
