use Rattle.std.proofs.{Common.{ap, arith, length, ◌<◌, ◌∙◌}, lemmas.List.length-set}
use Rattle.tables.{proofs.ListsLemmas.{same_total, same_written}, specs.Lists.far_at}
use Rattle.tables.proofs.lists.Lists.reserve_each.Goals as goal

pub loop-key-preserved : goal.loop-key-preserved
loop-key-preserved g c =
    let so_far = c.loop-key.invariant in
    let near = c.loop-key.self.near.items in
    let key = c.loop-key.key in
    let list = c.reserve_exact.new.self in
    let inside : key < length near = grind arith in
    let items = c.reserve_exact.ensures.items ∙ ap (λ v. v.items) c.index_mut.ensures.value in
    record {
      near = grind (arith, length-set);
      same = record {
        lists = λ k. same_written near key list _ inside items (far_at c.loop-key.self) k
            ∙ so_far.same.lists k;
        entries = grind (arith, same_total near key list _ inside items);
        known = λ k h. grind (arith, length-set, so_far.same.known k h);
      };
    }
