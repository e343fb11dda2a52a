use Rattle.{cnf_base.specs.Literals.has, root_literals.proofs.RootLemmas.Carried.propagates_none}
use Rattle.std.proofs.Common.{ap, arith, length, length-set, refl, set, sym, ◌+◌, ◌∙◌}
use Rattle.{std.proofs.lemmas.Option.same_Some, watch.proofs.WatchLemmas.Moves.listed_written}
use Rattle.watch.proofs.WatchLemmas.Visits.{found_at, front_apart, kept_fewer, kept_fits, kept_met}
use Rattle.watch.proofs.WatchLemmas.Visits.{next_entry, taken_fewer, taken_met, visited_none}
use Rattle.watch_lists.proofs.WatchListsLemmas.{Lists.{entry_at, slot_is}, Watched.watched_apart}
use Rattle.watch_lists.specs.{Lists.{entries_in, fits, list_at}, declared.watcher.Watcher.Watcher}
use Rattle.std.specs.FinMap as maps
use Rattle.watch.proofs.follow.visit.Goals as goal

pub look_at-requires-clause-entry : goal.look_at-requires-clause-entry
look_at-requires-clause-entry g c = next_entry c.args.cursor.now c.args.entry c.requires.next c.requires.can.hand

pub move_watch-requires-clause-next : goal.move_watch-requires-clause-next
move_watch-requires-clause-next g c = let cursor = c.args.cursor.now in
    let e = entry_at cursor.entries cursor.visited c.args.entry c.requires.next in
    grind (arith, slot_is)

pub move_watch-requires-clause-exchange : goal.move_watch-requires-clause-exchange
move_watch-requires-clause-exchange g c =
    let w = next_entry c.args.cursor.now c.args.entry c.requires.next c.requires.can.hand in
    grind (arith, watched_apart)

pub returns-in_ok-move_watch-in-Moves-clause-visited : goal.returns-in_ok-move_watch-in-Moves-clause-visited
returns-in_ok-move_watch-in-Moves-clause-visited g c held reason_of same =
    let w = next_entry c.args.cursor.now c.args.entry c.requires.next c.requires.can.hand in
    c.move_watch.ensures.visited held reason_of (grind arith)

pub returns-in_err-move_watch-in-Moves-clause-visited : goal.returns-in_err-move_watch-in-Moves-clause-visited
returns-in_err-move_watch-in-Moves-clause-visited g c held reason_of same =
    let w = next_entry c.args.cursor.now c.args.entry c.requires.next c.requires.can.hand in
    c.move_watch.ensures.visited held reason_of (grind arith)

pub returns-in_ok-move_watch-in-Moves-clause-met : goal.returns-in_ok-move_watch-in-Moves-clause-met
returns-in_ok-move_watch-in-Moves-clause-met g c = let e = entry_at _ _ _ c.requires.next in
    taken_met _ _ _ _ _ (λ l h. h) _ _ _ e.0 c.requires.can.met c.move_watch.ensures.others
    c.in_ok-move_watch-in-Moves.ensures.taken
    (λ s there same. front_apart _ _ _ _ c.requires.can.hand.listed _ _ _ e.0 there (same ∙ c.slot.ensures.value ∙ ap (λ x. x.slot) e.1))

pub returns-in_ok-move_watch-in-Moves-clause-fewer : goal.returns-in_ok-move_watch-in-Moves-clause-fewer
returns-in_ok-move_watch-in-Moves-clause-fewer g c = let cursor = c.args.cursor.now in
    let e = entry_at cursor.entries cursor.visited c.args.entry c.requires.next in
    grind (arith, taken_fewer)

pub keep-requires : goal.keep-requires
keep-requires g c = (entry_at _ _ _ c.requires.next).0

pub returns-in-Stays : goal.returns-in-Stays
returns-in-Stays g c = let live = maps.get c.args.store.now.live in
    let cursor = c.args.cursor.now in let list = cursor.entries in let e = c.args.entry in
    let r = entry_at list cursor.visited e c.requires.next in
    let w = next_entry cursor e c.requires.next c.requires.can.hand in
    let other = c.in-Stays.blocking in
    let entry : Watcher = record { slot = e.slot; blocking = other; is_binary = e.is_binary } in
    let entries = c.keep.ensures.entries ∙ ap (set list cursor.visited) c.with_blocking.ensures in
    let trues = (g.A.Assignment.trail_of c.args.assignment.now).lits in
    let stays = c.in-Stays.ensures.visit w.clause w.at in
    let fitting = kept_fits trues c.in-Stays.ensures.different w.clause c.args.l e.blocking other e.is_binary w.fitting c.requires.can.is_false stays.0 stays.1 in
    let hand = c.requires.can.hand in record {
      visited = λ held reason_of _. record {
        hand = simp entries (record {
          known = hand.known;
          taken = hand.taken;
          listed = listed_written live (list_at c.args.lists.now) c.args.l list hand.listed cursor.visited e entry r.0 r.1 refl
              (λ x there. ap (λ y. fits y c.args.l other e.is_binary) (same_Some x w.clause (sym there ∙ w.at)) ∙ fitting);
        });
        entries = ap (λ xs. entries_in c.args.lists.now + length xs) entries ∙ ap (λ n. entries_in c.args.lists.now + n) (length-set list cursor.visited entry);
        propagates = propagates_none c.args.store.now.live held reason_of;
      };
      met = kept_met c.args.store.now.live c.args.store.now.live c.args.l trues trues (λ l h. h) cursor c.keep.new.self e.slot r.0 c.requires.can.met (λ s ne. refl)
          entry refl entries c.keep.ensures.visited
          (λ x there _. (other, ap (λ y. has y other) (same_Some x w.clause (sym there ∙ w.at)) ∙ stays.0, stays.1));
      found = tt;
      fewer = kept_fewer cursor c.keep.new.self r.0 entry entries c.keep.ensures.visited;
      as_many = tt;
      slots = refl;
    }

pub returns-in-Unit-clause-visited : goal.returns-in-Unit-clause-visited
returns-in-Unit-clause-visited g c held reason_of _ = visited_none _ _ c.requires.can.hand

pub returns-in-Conflict-clause-visited : goal.returns-in-Conflict-clause-visited
returns-in-Conflict-clause-visited g c held reason_of _ = visited_none _ _ c.requires.can.hand

pub returns-in-Unit-clause-found : goal.returns-in-Unit-clause-found
returns-in-Unit-clause-found g c = found_at c.requires.next c.requires.can.hand c.in-Unit.ensures.visit

pub returns-in-Conflict-clause-found : goal.returns-in-Conflict-clause-found
returns-in-Conflict-clause-found g c = found_at c.requires.next c.requires.can.hand c.in-Conflict.ensures.visit
