use Rattle.{cnf_base.specs.Literals.has, tables.specs.ByKey.at}
use Rattle.root_literals.proofs.RootLemmas.{Carried.{clashes, propagates_unit}, Watched.set_by}
use Rattle.std.proofs.{Common.{ap, arith, length, refl, sym, ◌+◌, ◌∙◌}, lemmas.Option.same_Some}
use Rattle.{trail.proofs.TrailLemmas.Longer.has_begun, watch.proofs.WatchLemmas.Visits.visited_on}
use Rattle.watch.proofs.WatchLemmas.Visits.{all_met, can_visit_on, found_next, in_list, kept_fewer}
use Rattle.watch.proofs.WatchLemmas.Visits.{kept_met, put_same, room_found, visited_none}
use Rattle.watch_lists.{proofs.WatchListsLemmas.Lists.entry_at, specs.Lists.entries_in}
use Rattle.watch.proofs.follow.visit_all.Goals as goal

pub loop-at-init : goal.loop-at-init
loop-at-init c = record {
  visited = visited_none _ _ c.requires.can.hand;
  met = grind arith;
  slots = refl;
}

pub next_found-requires : goal.next_found-requires
next_found-requires c = let visited = c.loop-at.invariant.visited in
    let can = can_visit_on c.requires.can visited in grind arith

pub returns-in_err-at-clause-visited : goal.returns-in_err-at-clause-visited
returns-in_err-at-clause-visited c = visited_on c.loop-at.invariant.visited (grind arith)

pub set_by-requires-clause-reserved : goal.set_by-requires-clause-reserved
set_by-requires-clause-reserved c =
    let f = found_next c.in_ok-at.ensures.found c.in-Some.is c.in-Unit.is (ap (λ t. t.lits) c.trail.ensures) in
    (room_found c.requires.can c.loop-at.invariant.visited (c.next_found.ensures.visited c.loop-at.assumptions (at c.loop-at.reasons) (sym c.trail.ensures)) f).0

pub set_by-requires-clause-noted : goal.set_by-requires-clause-noted
set_by-requires-clause-noted c =
    let f = found_next c.in_ok-at.ensures.found c.in-Some.is c.in-Unit.is (ap (λ t. t.lits) c.trail.ensures) in
    (room_found c.requires.can c.loop-at.invariant.visited (c.next_found.ensures.visited c.loop-at.assumptions (at c.loop-at.reasons) (sym c.trail.ensures)) f).1

pub keep-requires : goal.keep-requires
keep-requires c =
    let cursor = c.next_found.new.cursor in
    let f = found_next c.in_ok-at.ensures.found c.in-Some.is refl (ap (λ t. t.lits) c.trail.ensures) in
    (entry_at cursor.entries cursor.visited _ f.next).0

pub loop-at-smaller : goal.loop-at-smaller
loop-at-smaller c =
    let f = found_next c.in_ok-at.ensures.found c.in-Some.is refl (ap (λ t. t.lits) c.trail.ensures) in
    let inside = (entry_at _ _ _ f.next).0 in
    let fewer = kept_fewer _ _ inside _ c.keep.ensures.entries c.keep.ensures.visited in
    let no_more = c.in_ok-at.ensures.no_more in omega (arith, fewer, no_more)

pub loop-at-preserved : goal.loop-at-preserved
loop-at-preserved c = let before = c.loop-at in let live = c.next_found.new.store.live in
    let lists = c.next_found.new.lists in let cursor = c.next_found.new.cursor in
    let held = before.assumptions in let now = c.set_by.new.assumptions in let m = c.in-Unit.m in
    let f = found_next c.in_ok-at.ensures.found c.in-Some.is c.in-Unit.is (ap (λ t. t.lits) c.trail.ensures) in
    let visited = c.next_found.ensures.visited held (at before.reasons) (sym c.trail.ensures) in
    let met = simp c.trail.ensures at c.in_ok-at.ensures.met in
    let r = entry_at cursor.entries cursor.visited _ f.next in let s = c.set_by.ensures in
    let kept = c.keep in
    let same = kept.ensures.entries ∙ put_same cursor.entries cursor.visited _ r.1 in
    let propagates = propagates_unit live held _ f.clause f.at m f.holds.0 f.holds.2 now
    c.set_by.result (at before.reasons) (at c.set_by.new.reasons) (grind arith) in record {
      visited = visited_on (visited_on before.invariant.visited visited) (record {
        hand = simp same visited.hand;
        entries = ap (λ xs. entries_in lists + length xs) same;
        propagates = propagates;
      });
      met = kept_met live live c.args.l held.trail.lits now.trail.lits (λ l h. has_begun held.trail.lits now.trail.lits l propagates.extends.begins h) cursor kept.new.self _ r.0 met (λ s ne. refl)
          _ refl kept.ensures.entries kept.ensures.visited
          (λ x there _. (m, ap (λ y. has y m) (same_Some x f.clause (sym there ∙ f.at)) ∙ f.holds.0, set_by held.trail.lits now.trail.lits m c.set_by.result s.was_open s.lits));
      slots = c.next_found.ensures.slots ∙ before.invariant.slots;
    }

pub returns-in-Conflict-clause-conflict : goal.returns-in-Conflict-clause-conflict
returns-in-Conflict-clause-conflict c = let live = c.next_found.new.store.live in
    let held = c.loop-at.assumptions in
    let f = found_next c.in_ok-at.ensures.found c.in-Some.is c.in-Conflict.is (ap (λ t. t.lits) c.trail.ensures) in
    simp c.slot-in-Conflict.ensures.value (clashes live held _ f.clause f.at f.holds)

pub returns-in-Conflict-clause-visited : goal.returns-in-Conflict-clause-visited
returns-in-Conflict-clause-visited c = visited_on c.loop-at.invariant.visited (grind arith)

pub returns-clause-visited : goal.returns-clause-visited
returns-clause-visited c = visited_on c.loop-at.invariant.visited (grind arith)

pub returns-clause-met : goal.returns-clause-met
returns-clause-met c = let before = c.loop-at in
    let visited = c.next_found.ensures.visited before.assumptions (at before.reasons) (sym c.trail.ensures) in
    let end = simp c.in_default.is at c.in_ok-at.ensures.found in
    let met = simp c.trail.ensures at c.in_ok-at.ensures.met in
    all_met _ _ _ (in_list _ _ _ _ visited.hand.listed) _ _ end met
