use Rattle.clause_db.proofs.StoreLemmas.Counts.{counted_without}
use Rattle.{clause_db.specs.Code.Counts.AreCounted, std.proofs.Common.{subst}}
use Rattle.clause_db.proofs.store.counts.count_out.Goals as goal

pub returns-in-Some : goal.returns-in-Some
returns-in-Some c live slot are here =
    counted_without c.in-Some.counts c.release.new.counts live slot c.args.lits.now
    (subst (λ o. AreCounted o live) c.in-Some.is are) here c.release.ensures
