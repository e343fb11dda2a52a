use Rattle.clause_db.proofs.StoreLemmas.Fields.{live_alone, sound_without, within_sum}
use Rattle.clause_db.specs.Code.{Counts.AreCounted, Fields.IsStore, Kept.AreKept}
use Rattle.std.proofs.Common.{ap, arith, is_some, length, subst, sym, ◌-◌, ◌∙◌}
use Rattle.clause_memory.specs.Memory as memory
use Rattle.clause_db.proofs.store.Store.remove.Goals as goal

pub count_out-requires-clause-there : goal.count_out-requires-clause-there
count_out-requires-clause-there g c = (_, _, c.self.invariant.3, sym c.clause-lits.ensures)

pub overflow_sub-self : goal.overflow_sub-self
overflow_sub-self g c = within_sum _ _ _ _ c.self.invariant.0 _ _ (sym c.clause-lits.ensures)

pub remove-requires-clause-there : goal.remove-requires-clause-there
remove-requires-clause-there g c = (_, c.self.invariant.1, sym c.clause-lits.ensures)

pub forget-requires : goal.forget-requires
forget-requires g c = (_, c.self.invariant.2, ap is_some (sym c.clause-lits.ensures))

pub invariant_of-self : goal.invariant_of-self
invariant_of-self g c =
    let i = c.self.inside in
    let m = g.M.Memory.seen c.remove-2.new.self in
    let here = sym c.clause-lits.ensures in
    let is = c.remove-2.ensures in
    let kept_is = is.live_alone ∙ ap memory.literals_in is.live in (
      subst (λ l. IsStore l m.stored i.marks (i.sum - length c.clause-lits.result.now)) (sym is.live)
          (sound_without (g.M.Memory.seen i.memory).live (g.M.Memory.seen i.memory).stored i.marks i.sum c.self.invariant.0 c.number-number.result c.clause-lits.result.now here m.stored kept_is),
      subst (g.I.Indexing.indexes c.remove.new.self) (sym is.live) (c.remove.ensures (g.M.Memory.seen i.memory).live c.self.invariant.1 here),
      subst (AreKept c.forget.new.kept) (sym is.live) (c.forget.ensures (g.M.Memory.seen i.memory).live c.self.invariant.2),
      subst (AreCounted c.count_out.new.counts) (sym is.live) (c.count_out.ensures (g.M.Memory.seen i.memory).live c.number-number.result c.self.invariant.3 here),
    )

pub returns-clause-live : goal.returns-clause-live
returns-clause-live g c = grind arith

pub returns-clause-live_alone : goal.returns-clause-live_alone
returns-clause-live_alone g c = live_alone _ _ _ _ (invariant_of-self g c).0
