use Rattle.{clause_db.proofs.StoreLemmas.Taken.taken_in, std.proofs.Common.{subst, sym, true, ◌≡◌}}
use Rattle.cnf_base.proofs.{SetLemmas.{same_back, same_from, same_there}, SizeLemmas.size_same}
use Rattle.{cnf_base.specs.Literals.{same_clause, size}, std.proofs.Common.{arith, length}}
use Rattle.clause_db.proofs.store.taken.put_in.Goals as goal

pub returns-then-len-lits-clause-taken : goal.returns-then-len-lits-clause-taken
returns-then-len-lits-clause-taken g c =
    let lits = c.args.lits.now in
    let is = c.insert.ensures in
    let made = c.in_ok-len.ensures in
    let len_is = made.len in
    let all = c.if-len-lits.true in
    taken_in c.insert.result (g.M.Memory.seen c.args.memory.now) (g.M.Memory.seen c.insert.new.self) lits lits (same_from lits lits (λ l h. h) (λ l h. h)) (omega arith) (omega (arith, made.short)) is.free is.live is.low is.few is.live_alone

pub returns-clause-taken : goal.returns-clause-taken
returns-clause-taken g c =
    let lits = c.args.lits.now in
    let x = c.deref.result.now in
    let is = c.insert-2.ensures in
    let made = c.in_ok-kept.ensures in
    let same = subst (λ d. same_clause d lits ≡ true) (sym c.deref.ensures.value) made.same in
    let different = subst (λ d. size d ≡ length d) (sym c.deref.ensures.value) made.different in
    let as_many = size_same x lits (same_there x lits same) (same_back x lits same) in
    let short = c.in_ok-len.ensures.short in
    taken_in c.insert-2.result (g.M.Memory.seen c.args.memory.now) (g.M.Memory.seen c.insert-2.new.self) lits x same different (omega arith) is.free is.live is.low is.few is.live_alone

pub returns-clause-few_slots : goal.returns-clause-few_slots
returns-clause-few_slots g c = grind (arith, size_same, same_there)
