use Rattle.std.proofs.{Common.rules, Common.not, Common.◌==◌, lemmas.Fn.filter_same}
use Rattle.occurrences.proofs.occurrence.rid.Goals as goal

pub returns : goal.returns
returns c = filter_same _ (λ e. not (e.slot == c.args.slot)) _ (λ x b f k. search rules) _ _ c.retain.ensures.filtered
