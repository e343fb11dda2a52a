-- A short clause whose literals differ.
use Rattle.{clause_db.proofs.StoreLemmas.Taken.taken_in, cnf_base.proofs.SetLemmas.same_from}
use Rattle.std.proofs.Common.{arith}
use Rattle.clause_db.proofs.store.taken.take_in.Goals as goal

pub returns-then-are_different-clause-taken : goal.returns-then-are_different-clause-taken
returns-then-are_different-clause-taken g c =
    let lits = c.args.lits.now in
    let is = c.insert.ensures in
    let few = c.if-lits-le-FEW.true in
    taken_in c.insert.result (g.M.Memory.seen c.args.memory.now) (g.M.Memory.seen c.insert.new.self)
    lits lits (same_from lits lits (λ l h. h) (λ l h. h))
    (c.are_different.ensures c.if-are_different.true) (omega (arith, few))
    is.free is.live is.low is.few is.live_alone
