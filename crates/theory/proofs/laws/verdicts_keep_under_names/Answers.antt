use Rattle.theory.proofs.RenamingLemmas.Verdicts.{verdict_renamed}
use Rattle.theory.proofs.laws.verdicts_keep_under_names.Goals as goal

pub returns : goal.returns
returns c = verdict_renamed
