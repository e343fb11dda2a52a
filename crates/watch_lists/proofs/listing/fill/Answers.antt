use Rattle.std.proofs.Common.{rules, ◌≡◌, Some}
use Rattle.std.specs.FinMap as maps
use Rattle.watch_lists.proofs.WatchListsLemmas.Parts.{filling_next, filling_none, filling_nothing}
use Rattle.watch_lists.proofs.listing.fill.Goals as goal
use Rattle.watch_lists.proofs.listing.fill.Goals.{in-Some+in_ok-watch_in, in_default}

pub loop-number-init : goal.loop-number-init
loop-number-init c = filling_none c.args.part c.args.store.now.live c.args.lists.now

pub loop-number-preserved : goal.loop-number-preserved
loop-number-preserved c =
    let live = c.args.store.now.live in
    let n = c.loop-number.number in
    let before = c.args.lists.now in
    let lists = c.loop-number.lists in
    elim c.match-at.branch [
      | in-Some+in_ok-watch_in w ↦ rw w.lists-is (
          let clause = w.in-Some.clause.now in
          let here : maps.get live n ≡ Some clause = search rules in
          let e = w.in_ok-watch_in.ensures in
          filling_next c.args.part live n clause before lists w.watch_in.new.lists here
          e.watched e.fitting e.more c.loop-number.invariant)
      | in_default w ↦ rw w.lists-is (
          filling_nothing c.args.part live n before _ (search rules) c.loop-number.invariant)
    ]
