use Rattle.std.proofs.{Common.subst, lemmas.Result.on_ok_weaker}
use Rattle.clause_db.{specs.Code.Kept.AreKept, proofs.StoreLemmas.Kept.of_with}
use Rattle.clause_db.proofs.store.kept.note.Goals as goal

pub returns-in-Some-clause-ok : goal.returns-in-Some-clause-ok
returns-in-Some-clause-ok c =
    on_ok_weaker c.add.result (λ noted live kept free.
    of_with c.in-Some.occurrences c.add.new.self live c.args.slot c.args.lits.now
    (subst (λ k. AreKept k live) c.in-Some.is kept) free c.requires.low noted) c.add.ensures.ok
