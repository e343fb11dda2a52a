use Rattle.{clause_memory.proofs.ClauseLemmas.{seen_in, stored_is}, std.proofs.Common.arith}
use Rattle.clause_memory.proofs.MemoryLemmas.{rewrite_inside, rewritten_clauses, rewritten_memory}
use Rattle.clause_memory.proofs.blocks.Blocks.rewatch.Goals as goal

pub rewrite-requires-clause-behind : goal.rewrite-requires-clause-behind
rewrite-requires-clause-behind c = c.requires.6

pub rewrite-requires-clause-inside : goal.rewrite-requires-clause-inside
rewrite-requires-clause-inside c =
    grind (arith, seen_in c.self.invariant _ c.self.view_is c.args.slot, rewrite_inside)

pub invariant_of-self : goal.invariant_of-self
invariant_of-self c =
    let m = c.self.invariant in
    let r = rewritten_memory m c.args.slot c.requires.1 c.args.to c.args.l c.args.other c.args.next in
    grind (arith, seen_in m _ c.self.view_is c.args.slot, r)

pub returns-clause-live : goal.returns-clause-live
returns-clause-live c d from here low is_l is_other =
    grind (arith, seen_in c.self.invariant _ c.self.view_is c.args.slot, rewritten_clauses)

pub returns-clause-live_alone : goal.returns-clause-live_alone
returns-clause-live_alone c = stored_is (invariant_of-self c)
