-- What is ahead, the column and the byte's number go on by so many.
use Rattle.std.proofs.{Common.arith, lemmas.Grind.common_steps}
use Rattle.cnf_base.proofs.StreamLemmas.{slice_range-skipped}
use Rattle.cnf_base.proofs.source.Source.skip_in_line.Goals as goal

pub returns : goal.returns
returns g c = grind (arith, common_steps, slice_range-skipped)
