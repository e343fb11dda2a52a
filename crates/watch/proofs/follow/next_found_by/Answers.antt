use Rattle.std.proofs.Common.{None, [], refl, ◌∙◌, arith}
use Rattle.watch_lists.proofs.WatchListsLemmas.Lists.{entry_past}
use Rattle.watch.proofs.WatchLemmas.Visits.{room_for_blocking, visited_none, visited_on}
use Rattle.watch.proofs.follow.next_found_by.Goals as goal

pub loop-entry-init : goal.loop-entry-init
loop-entry-init g c = record { can = c.requires; visited = λ held reason_of same. visited_none _ _ c.requires.hand; no_more = omega arith; slots = refl }

pub next_unblocked-requires : goal.next_unblocked-requires
next_unblocked-requires g c = room_for_blocking c.loop-entry.invariant.can

pub visit-requires-clause-can : goal.visit-requires-clause-can
visit-requires-clause-can g c = let so_far = c.loop-entry.invariant.can in grind arith

pub returns-in_err-found-clause-visited : goal.returns-in_err-found-clause-visited
returns-in_err-found-clause-visited g c held reason_of same =
    visited_on (c.loop-entry.invariant.visited held reason_of same)
    (simp c.next_unblocked.ensures.entries at (c.visit.ensures.visited held reason_of same))

pub returns-in-Some-2-clause-visited : goal.returns-in-Some-2-clause-visited
returns-in-Some-2-clause-visited g c held reason_of same =
    visited_on (c.loop-entry.invariant.visited held reason_of same)
    (simp c.next_unblocked.ensures.entries at (c.visit.ensures.visited held reason_of same))

pub loop-entry-preserved : goal.loop-entry-preserved
loop-entry-preserved g c = let trail = g.A.Assignment.trail_of c.args.assignment.now in
    let so_far = c.loop-entry.invariant in
    let visited = c.visit.ensures.visited (record { trail = trail; assumptions = []; starts = [] }) (λ _. None) refl in record {
      can = grind arith;
      visited = λ held reason_of same. visited_on (so_far.visited held reason_of same)
          (simp c.next_unblocked.ensures.entries at (c.visit.ensures.visited held reason_of same));
      no_more = grind arith;
      slots = c.visit.ensures.slots ∙ so_far.slots;
    }

pub returns-clause-found : goal.returns-clause-found
returns-clause-found g c = let cursor = c.next_unblocked.new.cursor in grind (arith, entry_past)

pub returns-clause-visited : goal.returns-clause-visited
returns-clause-visited g c held reason_of same =
    simp c.next_unblocked.ensures.entries (c.loop-entry.invariant.visited held reason_of same)
