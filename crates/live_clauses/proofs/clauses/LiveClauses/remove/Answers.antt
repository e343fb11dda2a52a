use Rattle.live_clauses.proofs.ClausesLemmas.Joined.{absent_invariant, held_without, joined_is}
use Rattle.live_clauses.proofs.ClausesLemmas.Joined.{none_without, owners_without}
use Rattle.live_clauses.proofs.ClausesLemmas.Joined.{removed_invariant}
use Rattle.{cnf_base.proofs.MapLemmas.sum_remove, std.proofs.Common.arith, std.proofs.Common.rules}
use Rattle.live_clauses.proofs.clauses.LiveClauses.remove.Goals as goal

pub invariant_of-self : goal.invariant_of-self
invariant_of-self c = (
  removed_invariant _ _ _ _ c.self.invariant.0.0 c.unbind.ensures.ids _ c.in-Some.ensures.was _ c.remove.ensures.live _ c.self.invariant.0.1,
  c.remove.ensures.live_alone,
  search (rules, owners_without),
)

pub invariant_of-self-in-None : goal.invariant_of-self-in-None
invariant_of-self-in-None c = (
  absent_invariant _ _ _ _ c.self.invariant.0.0 c.unbind.ensures.ids c.in-None.ensures.was _ c.self.invariant.0.1,
  c.self.invariant.1,
  search (rules, owners_without),
)

pub returns-in-Some-clause-was : goal.returns-in-Some-clause-was
returns-in-Some-clause-was c = search (rules, arith, joined_is)

pub returns-in-Some-clause-live : goal.returns-in-Some-clause-live
returns-in-Some-clause-live c = search (rules, arith, joined_is, held_without)

pub returns-in-None-clause-was : goal.returns-in-None-clause-was
returns-in-None-clause-was c = search (rules, arith, joined_is)

pub returns-in-None-clause-live : goal.returns-in-None-clause-live
returns-in-None-clause-live c = search (rules, arith, joined_is, none_without)

pub returns-in-Some-clause-fewer : goal.returns-in-Some-clause-fewer
returns-in-Some-clause-fewer c = search (rules, arith, sum_remove)
