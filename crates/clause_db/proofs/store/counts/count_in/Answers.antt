use Rattle.clause_db.{proofs.StoreLemmas.Counts.counted_with, specs.Code.Counts.AreCounted}
use Rattle.std.proofs.{Common.subst, lemmas.Result.on_ok_weaker}
use Rattle.clause_db.proofs.store.counts.count_in.Goals as goal

pub returns-in-Some-clause-ok : goal.returns-in-Some-clause-ok
returns-in-Some-clause-ok c = on_ok_weaker c.count_all.result (λ more live slot are free.
    counted_with c.in-Some.counts c.count_all.new.counts live slot c.args.lits.now (subst (λ o. AreCounted o live) c.in-Some.is are) free more) c.count_all.ensures.ok
