use Rattle.std.proofs.Common.{arith, length}
use Rattle.std.proofs.lemmas.{Cmp.nat_cmp_total, Map.Entries.sum_by-insert_entry}
use Rattle.tables.proofs.lists.Lists.put_far.Goals as goal

pub returns-clause-total : goal.returns-clause-total
returns-clause-total g c =
    let e = c.insert.ensures in
    let put = sum_by-insert_entry (λ v. length v.items) nat_cmp_total c.args.self.now.far.entries
    c.args.key c.give_back.new.list e.was_ordered in
    grind (arith, put, e.entries, e.absent)
