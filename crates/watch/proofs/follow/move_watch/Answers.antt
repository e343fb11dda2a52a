use Rattle.{clause_db.proofs.StoreLemmas.Swap.has_swapped, cnf_base.proofs.MapLemmas.insert_other}
use Rattle.{cnf_base.specs.Literals.Literal, root_literals.proofs.RootLemmas.Carried.propagates_on}
use Rattle.std.proofs.Common.{[], ap, arith, cond, eqb, false, length, ne_eqb, refl, remove, swap}
use Rattle.std.proofs.{Common.{◌++◌, ◌+◌, ◌∙◌, ◌∷◌}, lemmas.List.Edits.{length-remove, length-swap}}
use Rattle.watch.proofs.WatchLemmas.Moves.{entries_moved, exchange_member, exchanged}
use Rattle.watch.proofs.WatchLemmas.Moves.{exchanged_back, listed_moved, moved, moved_there}
use Rattle.watch.proofs.WatchLemmas.Moves.{places_apart, propagates_moved, second_inside}
use Rattle.watch.proofs.WatchLemmas.Moves.{times_moved, to_inside, turned_at, turned_clause}
use Rattle.watch.proofs.WatchLemmas.Moves.{turned_listed, turned_live, turned_propagates}
use Rattle.watch.proofs.WatchLemmas.{Moves.unfit_moved, Visits.{listed_alike, longer_fits}}
use Rattle.watch.{proofs.WatchLemmas.Visits.same_cursor, specs.Code.Visits.{IsInHand, with_list}}
use Rattle.watch_lists.proofs.WatchListsLemmas.Lists.{entries_removed, unfit_removed}
use Rattle.watch_lists.specs.{Lists.list_at, declared.watcher.Watcher.Watcher}
use Rattle.std.specs.FinMap as maps
use Rattle.watch.proofs.follow.move_watch.Goals as goal

pub rewatch-requires : goal.rewatch-requires
rewatch-requires c = grind arith

pub swap-requires : goal.swap-requires
swap-requires c =
    let was = c.requires.exchange in
    (exchanged was, moved_there was _ _ c.at-at.ensures c.rewatch.ensures.live, to_inside was, second_inside was)

pub returns-in-Ok : goal.returns-in-Ok
returns-in-Ok c =
    let was = c.requires.exchange in
    let w = turned_at was in
    let x = c.args.exchange in
    let l = c.args.l in
    let before = c.args.store.now.live in
    let live = turned_live was in
    let lists = list_at c.args.lists.now in
    let pushed = list_at c.push.new.self in
    let list = c.args.cursor.now.entries in
    let place = c.args.cursor.now.visited in
    let left = remove list place in
    let slot = c.args.slot in
    let entry : Watcher = record { slot = slot; blocking = x.other; is_binary = false } in
    let put = λ (k : Literal). c.in-Ok.ensures.ok k ∙ ap (λ w. cond (eqb k x.next) (lists k ++ w ∷ []) (lists k)) c.new-watcher.ensures in
    let inside = c.requires.next.0 in
    let past = w.exchange.to_high in
    let within = w.exchange.to_inside in
    let other = places_apart w.clause 1 x.to l x.next w.different (omega (arith, past)) within w.exchange.from_is w.exchange.to_is in
    let d = exchanged was in
    let put_there = moved was c.rewatch.new.self.live c.at-at.result c.at-at.ensures c.rewatch.ensures.live in
    let taken = entries_removed list place slot entry inside c.requires.next.1 in
    let fewer = unfit_removed list place entry inside in
    let hand : IsInHand c.rewatch.new.self.live c.push.new.self left l = record {
      known = c.push.ensures.known l c.requires.hand.known;
      taken = put l ∙ ap (λ b. cond b (lists l ++ entry ∷ []) (lists l)) (ne_eqb l x.next other) ∙ c.requires.hand.taken;
      listed = simp put_there
          (listed_moved live slot w.clause d w.at (has_swapped w.clause d 1 x.to (omega (arith, past, within)) within refl) (length-swap w.clause 1 x.to)
          l x.next (entries_moved l x.next w.clause x.to w.apart w.different w.exchange.from_is past within w.exchange.to_is)
          (with_list c.args.lists.now l list) (with_list c.push.new.self l left) (turned_listed was (with_list c.args.lists.now l list) c.requires.hand.listed)
          (times_moved lists pushed l x.next entry other put list left taken)
          (unfit_moved lists pushed l x.next entry other put list left taken w.clause (longer_fits w.clause x.next x.other (exchange_member w.exchange) (omega (arith, past, within))) fewer));
    } in
    let shorter = length-remove list place inside in record {
      visited = λ held reason_of is_open. record {
        hand = simp c.take_out.ensures.entries hand;
        entries = let more = c.in-Ok.ensures.more in let len = ap length c.take_out.ensures.entries in omega (arith, more, shorter, len);
        propagates = propagates_on before live c.rewatch.new.self.live held held held reason_of reason_of reason_of (turned_propagates was held reason_of)
            (simp put_there (propagates_moved live held slot w.clause w.at x.to l x.next w.apart w.different w.exchange.from_is past within w.exchange.to_is is_open reason_of));
      };
      taken = same_cursor c.take_out.new.self (remove list place) place c.take_out.ensures.entries c.take_out.ensures.visited;
      others = λ s ne. ap (λ m. maps.get m s) put_there ∙ insert_other live slot s d ne ∙ insert_other before slot s (turned_clause was) ne;
      slots = c.rewatch.ensures.slots;
    }

pub returns-in-Err : goal.returns-in-Err
returns-in-Err c =
    let list = c.args.cursor.now.entries in
    let before = c.args.store.now.live in
    let after = c.rewatch.new.self.live in
    let l = c.args.l in
    let was = c.requires.exchange in
    let w = turned_at was in
    let x = c.args.exchange in
    let low = second_inside was in
    let len = length-swap w.clause 1 x.to in
    let back =
    exchanged_back (turned_live was) after c.swap.new.self.live c.args.slot 1 x.to w.clause w.at (omega (arith, low, len)) w.exchange.to_inside (moved was c.rewatch.new.self.live c.at-at.result c.at-at.ensures c.rewatch.ensures.live)
    (λ d there. c.swap.ensures.live d (ap (maps.get after) c.at-at.ensures ∙ there) ∙ ap (λ s. maps.insert after s (swap d x.to 1)) c.at-at.ensures) in record {
      visited = λ held reason_of is_open. record {
        hand = record {
          known = c.push.ensures.known l c.requires.hand.known;
          taken = c.in-Err.ensures.err l ∙ c.requires.hand.taken;
          listed = simp back
              (listed_alike (maps.get (turned_live was)) (with_list c.args.lists.now l list) (with_list c.push.new.self l list) (λ y. ap (cond (eqb y l) list) (c.in-Err.ensures.err y))
              (turned_listed was (with_list c.args.lists.now l list) c.requires.hand.listed));
        };
        entries = ap (λ n. n + length list) c.in-Err.ensures.as_many;
        propagates = simp back (turned_propagates was held reason_of);
      };
      taken = tt;
      others = λ s ne. ap (λ m. maps.get m s) back ∙ insert_other before c.args.slot s (turned_clause was) ne;
      slots = c.swap.ensures.slots ∙ c.rewatch.ensures.slots;
    }
