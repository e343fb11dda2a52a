-- One more group.
use Rattle.{proofs.proofs.WholeLemmas.{kept_value, kept_weight}, std.proofs.Common.rules}
use Rattle.proofs.proofs.drat_binary.groups.Groups.with.Goals as goal

pub returns-clause-more : goal.returns-clause-more
returns-clause-more c = λ bytes k. search (rules, kept_value, kept_weight)
