use Rattle.std.proofs.Common.{rules, arith, ◌≡◌, ◌+◌, subst}
use Rattle.watch_lists.proofs.WatchListsLemmas.Parts.{AreFilled, filled_all, filled_next}
use Rattle.watch_lists.proofs.WatchListsLemmas.Parts.{filled_none}
use Rattle.watch_lists.proofs.listing.listed.Goals as goal

pub loop-number-init : goal.loop-number-init
loop-number-init c =
    let e = c.in_ok-lists.ensures in
    filled_none c.in_ok-lists.last c.args.store.now.live c.in_ok-lists.lists e.lists e.entries

pub loop-number-preserved : goal.loop-number-preserved
loop-number-preserved c =
    let n = c.loop-number.number in
    let e = c.in_ok-fill.ensures in
    filled_next c.in_ok-lists.last c.args.store.now.live n c.loop-number.lists c.fill.new.lists
    e.watched e.fitting e.more c.loop-number.invariant

pub returns : goal.returns
returns c =
    let last = c.in_ok-lists.last in
    let live = c.args.store.now.live in
    let lists = c.loop-number.lists in
    let end : c.loop-number.number ≡ last + 1 = search (rules, arith) in
    let filled = subst (λ n. AreFilled last n live lists) end c.loop-number.invariant in
    filled_all last live lists c.requires.low c.recall_invariant.ensures.different filled
