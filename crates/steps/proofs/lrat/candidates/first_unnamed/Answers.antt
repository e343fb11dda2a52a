use Rattle.{std.proofs.Common.rules, steps.proofs.LratLemmas.none_found}
use Rattle.steps.proofs.lrat.candidates.first_unnamed.Goals as goal

pub returns-clause-first : goal.returns-clause-first
returns-clause-first c = search (rules, none_found)
