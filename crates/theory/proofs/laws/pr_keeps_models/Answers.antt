use Rattle.theory.proofs.LawLemmas.Truth.{pr_keeps}
use Rattle.theory.proofs.laws.pr_keeps_models.Goals as goal

pub returns : goal.returns
returns c = pr_keeps
