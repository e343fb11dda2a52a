use Rattle.std.proofs.{Common.arith, lemmas.Grind.common_steps}
use Rattle.ids.proofs.IdLemmas.Pages.{counts_some, counted_as-some}
use Rattle.ids.proofs.pages.Pages.clear.Goals as goal

pub overflow_sub-count : goal.overflow_sub-count
overflow_sub-count c = grind (arith, counts_some)

pub write-requires-clause-count : goal.write-requires-clause-count
write-requires-clause-count c = grind (arith, counts_some, counted_as-some, common_steps)
