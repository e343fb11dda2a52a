use Rattle.std.proofs.{Common.arith, lemmas.Map.Entries.sum_by-set_value}
use Rattle.tables.proofs.lists.Lists.take_far.Goals as goal

pub returns-in-Some-clause-total : goal.returns-in-Some-clause-total
returns-in-Some-clause-total g c =
    let far = c.args.self.now.far.entries in
    grind (arith, sum_by-set_value)
