use Rattle.std.proofs.Common.{[], ap, arith, length, slice_get, ◌++◌, ◌∙◌, ◌∷◌}
use Rattle.std.proofs.lemmas.List.{length-append, Sums.sum_by_push}
use Rattle.tables.{proofs.ListsLemmas.{known_more, near_more}, specs.Lists.{far_at, items_or}}
use Rattle.tables.proofs.lists.Lists.widen.Goals as goal

pub loop-key-preserved : goal.loop-key-preserved
loop-key-preserved g c =
    let before = c.loop-key.self in
    let so_far = c.loop-key.invariant in
    let after = c.take_far-list.new.self in
    let list = c.take_far-list.result in
    let e = c.take_far-list.ensures in
    let items = c.push_reserved.ensures.items ∙ ap (λ v. v.items ++ list ∷ []) e.near
    ∙ ap (λ xs. xs ++ list ∷ []) c.reserve.ensures.items in
    record {
      len = grind (arith, length-append);
      same = record {
        lists = λ k. ap (λ xs. items_or (slice_get xs k) (far_at after k)) items
            ∙ near_more _ _ list (far_at before) (far_at after) so_far.len e.list e.others k
            ∙ so_far.same.lists k;
        entries = grind (arith, sum_by_push);
        known = λ k h. known_more k (length before.near.items) _ _ _
            (grind (arith, length-append)) (e.known k) (so_far.same.known k h);
      };
    }
