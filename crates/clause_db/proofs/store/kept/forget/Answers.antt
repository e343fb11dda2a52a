use Rattle.std.proofs.Common.{subst}
use Rattle.clause_db.{specs.Code.Kept.AreKept, proofs.StoreLemmas.Kept.of_without}
use Rattle.clause_db.proofs.store.kept.forget.Goals as goal

pub returns-in-Some : goal.returns-in-Some
returns-in-Some c live kept =
    of_without c.in-Some.occurrences c.forget.new.self live c.args.slot
    (subst (λ k. AreKept k live) c.in-Some.is kept) c.forget.ensures
