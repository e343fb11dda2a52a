use Rattle.live_clauses.proofs.ClausesLemmas.Joined.{freed_is, add_live, add_invariant}
use Rattle.std.proofs.Common.{arith, rules, ap}
use Rattle.live_clauses.proofs.clauses.LiveClauses.add.Goals as goal

pub invariant_of-self-then-is_err : goal.invariant_of-self-then-is_err
invariant_of-self-then-is_err c = search (rules, arith, freed_is)

pub invariant_of-self-2 : goal.invariant_of-self-2
invariant_of-self-2 c = (
  add_invariant _ _ _ _ _ _ _ c.args.self.now (ap (λ s. s.live) c.self.view_is) c.self.invariant.0.0 c.in_ok-slot.ensures.free
      c.in_ok-slot.ensures.others c.in_ok-slot.ensures.stored (search rules) _ c.self.invariant.0.1 (search (rules, arith)),
  c.insert.ensures.live_alone,
  search rules,
)

pub returns-clause-live : goal.returns-clause-live
returns-clause-live c = search (rules, arith, add_live)

pub returns-then-is_err-clause-refused : goal.returns-then-is_err-clause-refused
returns-then-is_err-clause-refused c = search (rules, freed_is)
