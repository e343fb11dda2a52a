use Rattle.std.proofs.{Common.sym, Common.subst, lemmas.Result.on_ok_weaker}
use Rattle.clause_db.specs.Store.{IsTouchedAt}
use Rattle.root_literals.proofs.RootLemmas.Reasons.{seen_touched, touched_seen}
use Rattle.watch.proofs.watch.WatchPropagate.touched.Goals as goal

pub returns-clause-each : goal.returns-clause-each
returns-clause-each c =
    let live = c.self.inside.store.live in
    let lits = c.args.lits.now in
    on_ok_weaker c.slots_touched.result (λ each s h. subst (λ w. IsTouchedAt w.propagation.live lits s) c.self.view_is (touched_seen live lits s (each s h))) c.slots_touched.ensures.each

pub returns-clause-all : goal.returns-clause-all
returns-clause-all c =
    let live = c.self.inside.store.live in
    let lits = c.args.lits.now in
    on_ok_weaker c.slots_touched.result (λ all s there. all s (seen_touched live lits s (subst (λ w. IsTouchedAt w.propagation.live lits s) (sym c.self.view_is) there))) c.slots_touched.ensures.all
