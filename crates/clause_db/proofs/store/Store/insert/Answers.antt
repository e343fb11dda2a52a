use Rattle.clause_db.proofs.StoreLemmas.Fields.{live_alone, sound_with, sum_fits}
use Rattle.{clause_db.proofs.StoreLemmas.Kept.insert_undone, clause_memory.specs.Memory.MemoryState}
use Rattle.clause_db.specs.Code.{Counts.AreCounted, Fields.{IsStore, IsTakenIn}, Kept.AreKept}
use Rattle.{cnf_base.proofs.{MapLemmas.insert_here, SetLemmas.same_there}, std.specs.FinMap.FinMap}
use Rattle.{cnf_base.specs.Literals.{Clause, has, size}, std.proofs.lemmas.Option.same_Some}
use Rattle.std.proofs.Common.{Some, ap, arith, length, nat_cmp, subst, sym, true, ℕ, ◌+◌, ◌∙◌, ◌≡◌}
use Rattle.std.specs.FinMap as maps
use Rattle.clause_memory.specs.Memory as memory
use Rattle.clause_db.proofs.store.Store.insert.Goals as goal

-- ---- Where no memory is left for the clause

pub invariant_of-self : goal.invariant_of-self
invariant_of-self g c = grind arith

pub returns-in_err-slot-clause-live_alone : goal.returns-in_err-slot-clause-live_alone
returns-in_err-slot-clause-live_alone g c = live_alone _ _ _ _ (invariant_of-self g c).0

-- ---- Where it is told to the index

pub list_up-requires-clause-free : goal.list_up-requires-clause-free
list_up-requires-clause-free g c =
    let t = c.in_ok-slot.ensures.taken in (_, c.self.invariant.2, c.self.invariant.3, t.free, t.few)

-- the literals that the memory hands out are those that were taken in
taken_is : {m n : MemoryState} {slot : ℕ} {lits kept : Clause} → (taken : IsTakenIn m n slot lits) → Some kept ≡ maps.get n.live slot → kept ≡ taken.clause
taken_is {m} {n} {slot} taken is = same_Some _ _ (grind (arith, insert_here))

pub list_up-requires-clause-different : goal.list_up-requires-clause-different
list_up-requires-clause-different g c =
    let taken = c.in_ok-slot.ensures.taken in
    subst (λ d. size d ≡ length d) (sym (taken_is taken c.clause-kept.ensures)) taken.different

pub overflow_add-self : goal.overflow_add-self
overflow_add-self g c = grind (arith, taken_is, sum_fits _ _ _ _ c.self.invariant.0)

pub invariant_of-self-in-Ok : goal.invariant_of-self-in-Ok
invariant_of-self-in-Ok g c =
    let i = c.self.inside in
    let m = g.M.Memory.seen c.take_in.new.memory in
    let slot = c.in_ok-slot.slot in
    let marks = c.take_in.new.marks in
    let taken = c.in_ok-slot.ensures.taken in
    let x = taken.clause in
    let kept_is = taken_is taken c.clause-kept.ensures in
    let known = λ (l : ℕ) (h : has x l ≡ true). c.in_ok-slot.ensures.known l (same_there x c.args.lits.now taken.same l h) in
    let live_is = ap (maps.insert (g.M.Memory.seen i.memory).live slot) kept_is ∙ sym taken.live in
    let sound = sound_with (g.M.Memory.seen i.memory).live (g.M.Memory.seen i.memory).stored i.marks i.sum c.self.invariant.0 slot x taken.free taken.different taken.short marks known (λ l h. c.take_in.ensures.still_known l h) c.take_in.ensures.clear m.stored (taken.stored ∙ ap memory.literals_in taken.live) in (
      subst (λ n. IsStore m.live m.stored marks (i.sum + n)) (ap length (sym kept_is)) (subst (λ l. IsStore l m.stored marks (i.sum + length x)) (sym taken.live) sound),
      subst (g.I.Indexing.indexes c.list_up.new.index) live_is (c.in-Ok.ensures.index (g.M.Memory.seen i.memory).live c.self.invariant.1 taken.free),
      subst (AreKept c.list_up.new.kept) live_is (c.in-Ok.ensures.kept (g.M.Memory.seen i.memory).live c.self.invariant.2 taken.free),
      subst (AreCounted c.list_up.new.counts) live_is (c.in-Ok.ensures.counts (g.M.Memory.seen i.memory).live c.self.invariant.3 taken.free),
    )

pub returns-in-Ok-clause-free : goal.returns-in-Ok-clause-free
returns-in-Ok-clause-free g c = grind arith

pub returns-in-Ok-clause-live_alone : goal.returns-in-Ok-clause-live_alone
returns-in-Ok-clause-live_alone g c = live_alone _ _ _ _ (invariant_of-self-in-Ok g c).0

-- ---- Where no memory is left for the index

-- the clauses are those from before the call
undone : {m n : MemoryState} {live : FinMap nat_cmp Clause} {slot : ℕ} {lits : Clause} → IsTakenIn m n slot lits → live ≡ maps.remove n.live slot → live ≡ m.live
undone {m} {slot = slot} taken is = is ∙ ap (λ l. maps.remove l slot) taken.live ∙ insert_undone m.live slot taken.clause taken.free

pub invariant_of-self-in-Err : goal.invariant_of-self-in-Err
invariant_of-self-in-Err g c = grind (arith, undone)

pub returns-in-Err-clause-err_live : goal.returns-in-Err-clause-err_live
returns-in-Err-clause-err_live g c = grind (arith, undone)

pub returns-in-Err-clause-err_stored : goal.returns-in-Err-clause-err_stored
returns-in-Err-clause-err_stored g c = grind (arith, undone)

pub returns-in-Err-clause-live_alone : goal.returns-in-Err-clause-live_alone
returns-in-Err-clause-live_alone g c = live_alone _ _ _ _ (invariant_of-self-in-Err g c).0
