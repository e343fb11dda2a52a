use Rattle.std.proofs.{Common.{arith, length}, lemmas.Cmp.nat_cmp_total}
use Rattle.std.proofs.lemmas.Map.Entries.{sum_by-insert_entry}
use Rattle.tables.proofs.lists.Lists.make_list.Goals as goal

pub returns-clause-same : goal.returns-clause-same
returns-clause-same g c =
    let old = c.args.self.now in
    let e = c.in_ok-insert.ensures in
    let put = sum_by-insert_entry (λ v. length v.items) nat_cmp_total old.far.entries c.args.key
    c.new.result e.was_ordered in record {
      lists = λ k. grind arith;
      entries = grind (arith, put, e.entries);
      known = λ k h. grind arith;
    }
