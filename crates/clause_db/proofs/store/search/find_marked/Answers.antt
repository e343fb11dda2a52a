use Rattle.clause_db.{proofs.StoreLemmas.Options.if_none_then, specs.Code.LiteralMarks.is_marked}
use Rattle.{clause_db.specs.Code.Matches.is_match_in, std.proofs.Common.{ap, sym, ◌∙◌}}
use Rattle.tables.specs.ByKey.{at}
use Rattle.clause_db.proofs.store.search.find_marked.Goals as goal

pub returns-clause-none : goal.returns-clause-none
returns-clause-none g c =
    if_none_then c.find.result c.find.ensures.none (λ none s d is alike.
    ap (is_match_in (λ l. is_marked (at c.args.marks.now l)) c.args.digest.now.len) (sym is)
    ∙ none (g.M.Memory.seen c.args.memory.now).live s d c.requires is alike)
