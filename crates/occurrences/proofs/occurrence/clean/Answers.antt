use Rattle.{occurrences.specs.Entries.counts, std.proofs.{Common.rules, lemmas.Fn.filter_same}}
use Rattle.occurrences.proofs.occurrence.clean.Goals as goal

pub returns-clause-items : goal.returns-clause-items
returns-clause-items c = filter_same _ (counts c.args.births.now) _ (λ x b f k. search rules) _ _ c.retain.ensures.filtered
