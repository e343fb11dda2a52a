use Rattle.theory.proofs.LawLemmas.Truth.{rat_keeps}
use Rattle.theory.proofs.laws.rat_keeps_models.Goals as goal

pub returns : goal.returns
returns c = rat_keeps
