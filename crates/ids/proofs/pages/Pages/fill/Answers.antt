use Rattle.std.proofs.{Common.◌-◌, Common.arith, lemmas.Grind.common_steps}
use Rattle.ids.proofs.IdLemmas.Pages.{counts_most, counted_as-none, counted_as-some}
use Rattle.ids.proofs.pages.Pages.fill.Goals as goal

pub overflow_add-count : goal.overflow_add-count
overflow_add-count c =
    let pages = c.args.self.now in
    let most = counts_most pages.entries.items pages.live.items c.requires.page.counted.counts (c.args.page - 1) in
    grind (arith, common_steps, most)

pub write-requires-clause-count : goal.write-requires-clause-count
write-requires-clause-count c = grind (arith, counted_as-none, counted_as-some, common_steps)
