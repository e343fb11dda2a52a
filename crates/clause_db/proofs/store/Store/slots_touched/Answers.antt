use Rattle.std.proofs.{Common.sym, Common.ap, Common.◌∙◌, Common.subst, lemmas.Result.on_ok_weaker}
use Rattle.clause_db.{specs.Store.IsTouchedAt, proofs.StoreLemmas.Kept.touched_from}
use Rattle.clause_db.proofs.store.Store.slots_touched.Goals as goal

pub returns-clause-each : goal.returns-clause-each
returns-clause-each g c = on_ok_weaker c.find_slots.result (λ slots s h.
    let live = (g.M.Memory.seen c.self.inside.memory).live in
    subst (λ m. IsTouchedAt m c.args.lits.now s) (ap (λ v. v.live) c.self.view_is) (touched_from live c.args.lits.now s (sym (slots s) ∙ h))) c.find_slots.ensures.slots
