use Rattle.{clause_memory.proofs.ClauseLemmas.{seen_in, stored_is}, std.proofs.Common.arith}
use Rattle.clause_memory.proofs.MemoryLemmas.{swap_inside, swapped_clauses, swapped_memory}
use Rattle.clause_memory.proofs.blocks.Blocks.swap.Goals as goal

pub exchange-requires-clause-first : goal.exchange-requires-clause-first
exchange-requires-clause-first c =
    grind (arith, swap_inside, seen_in c.self.invariant _ c.self.view_is c.args.slot)

pub exchange-requires-clause-second : goal.exchange-requires-clause-second
exchange-requires-clause-second c =
    grind (arith, swap_inside, seen_in c.self.invariant _ c.self.view_is c.args.slot)

pub invariant_of-self : goal.invariant_of-self
invariant_of-self c =
    let m = c.self.invariant in
    let r = swapped_memory m c.args.slot c.args.a c.args.b in
    grind (arith, seen_in m _ c.self.view_is c.args.slot, r)

pub returns-clause-live : goal.returns-clause-live
returns-clause-live c d here =
    grind (arith, seen_in c.self.invariant _ c.self.view_is c.args.slot d, swapped_clauses)

pub returns-clause-live_alone : goal.returns-clause-live_alone
returns-clause-live_alone c = stored_is (invariant_of-self c)
