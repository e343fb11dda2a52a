use Rattle.std.proofs.{Common.{ap, arith, length, slice_get, ◌∙◌, ◌≤◌}, lemmas.List.get_or-set_same}
use Rattle.{std.proofs.lemmas.Option.slice_get-get_or, tables.proofs.ListsLemmas.rest_written}
use Rattle.tables.{proofs.ListsLemmas.{total_again, total_put}, specs.Lists.{far_at, items_or}}
use Rattle.tables.proofs.lists.Lists.put_back.Goals as goal

pub returns-then-key-len-clause-entries : goal.returns-then-key-len-clause-entries
returns-then-key-len-clause-entries g c =
    grind (arith, total_put, total_again, slice_get-get_or, get_or-set_same)

pub returns-else-key-len-clause-lists : goal.returns-else-key-len-clause-lists
returns-else-key-len-clause-lists g c k =
    let old = c.args.self.now in
    let after = c.put_far.new.self in
    let past : length old.near.items ≤ c.args.key = grind arith in
    ap (λ v. items_or (slice_get v.items k) (far_at after k)) c.put_far.ensures.near
    ∙ rest_written _ c.args.key c.args.list (far_at old) _ past c.put_far.ensures.lists k
