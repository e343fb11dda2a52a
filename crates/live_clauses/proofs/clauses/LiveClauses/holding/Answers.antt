use Rattle.live_clauses.proofs.ClausesLemmas.Joined.{holding_counts}
use Rattle.{clause_db.specs.Store.copies_with, std.proofs.Common.ap, std.proofs.Common.◌∙◌}
use Rattle.live_clauses.proofs.clauses.LiveClauses.holding.Goals as goal

pub returns-clause-bound : goal.returns-clause-bound
returns-clause-bound c =
    holding_counts c.self.inside.ids c.self.inside.store.live c.args.self.now (ap (λ s. s.live) c.self.view_is) c.self.invariant.0.0 c.args.l c.count_with.result
    (c.count_with.ensures ∙ ap (λ s. copies_with s.live c.args.l) c.keep_counts.ensures)
