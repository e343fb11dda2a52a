use Rattle.root_literals.proofs.RootLemmas.Carried.{begun_again, history_grown, kept_grown}
use Rattle.root_literals.proofs.RootLemmas.Carried.{units_kept, visited_more}
use Rattle.root_literals.proofs.RootLemmas.Watched.{history_begun, watched_most}
use Rattle.root_literals.specs.{History.{IsHistory, sure_of, visits}, Roots.has_conflict}
use Rattle.{root_literals.specs.Watched.IsWatched, watch.proofs.refresh.catch_up.Goals.In_ok-slot}
use Rattle.std.proofs.Common.{[], ap, arith, false, length, length-append, refl, sym, take}
use Rattle.std.proofs.Common.{take_all, true≢false, ◌+◌, ◌<◌, ◌∙◌, ◌∷◌, ◌≡◌, ◌≤◌}
use Rattle.watch.proofs.WatchLemmas.Visits.{fits_on, followed_none, followed_on, read_at}
use Rattle.std.specs.FinMap as maps
use Rattle.watch.proofs.refresh.catch_up.Goals as goal

pub loop-done-init : goal.loop-done-init
loop-done-init c = let kept = c.requires.kept in record {
  count = sym c.len-done.ensures;
  history = kept.history;
  watched =
      simp c.len-done.ensures (simp c.in-WithUnits.is at (kept.visited (ap has_conflict c.in-WithUnits.is)));
  begun = simp c.len-done.ensures c.requires.begun;
  followed = followed_none c.requires.can;
  uses = refl;
  slots = refl;
}

pub returns-in_err-slot-clause-followed : goal.returns-in_err-slot-clause-followed
returns-in_err-slot-clause-followed c = followed_on c.loop-done.invariant.followed c.follow.ensures.followed

pub returns-in_default-clause-followed : goal.returns-in_default-clause-followed
returns-in_default-clause-followed c = followed_none c.requires.can

-- the visit is noted, and what was visited before it stays so
loop-visited : (c : In_ok-slot) → (visits c.begin.new.self ≡ c.loop-done.done + 1) × IsHistory (sure_of c.begin.new.self.doubts.items (maps.get c.follow.new.store.live)) c.begin.new.self c.follow.new.assumptions.trail.lits
loop-visited c =
    let before = c.loop-done in
    let so_far = before.invariant in
    let x = before.assumptions in
    let y = c.follow.new.assumptions in
    let a = before.store.live in
    let b = c.follow.new.store.live in
    let step = c.in_ok-slot.ensures.followed.propagates in
    let count = so_far.count in
    let inside : c.loop-done.done < length c.loop-done.assumptions.trail.lits = let low = c.loop-done-test.true in let n = c.len.ensures.value ∙ ap (λ t. length t.lits) c.trail.ensures in omega arith in
    let t = c.max.result in
    let pushed = c.in_ok-begin.ensures.visited in
    let one_more = ap length pushed ∙ length-append before.roots.history.visited.items (t ∷ []) in
    let ds = before.roots.history.doubts.items in
    let most = c.max.ensures in
    let watched = simp (← count) at so_far.begun in
    let begun = history_begun (sure_of ds (maps.get a)) before.roots.history c.begin.new.self x.trail.lits t (omega (arith, count, inside)) (omega (arith, count, most)) pushed c.in_ok-begin.ensures.floor (λ p low. watched p (omega (arith, low, most))) so_far.history in
    let sure : IsWatched (sure_of ds (maps.get a)) (take before.done x.trail.lits) x.trail.lits =
    watched_most _ ds false _ _ so_far.watched in grind (arith, history_grown)

pub loop-done-smaller : goal.loop-done-smaller
loop-done-smaller c = grind (arith, fits_on)

pub loop-done-preserved : goal.loop-done-preserved
loop-done-preserved c =
    let before = c.loop-done in
    let so_far = before.invariant in
    let x = before.assumptions in
    let y = c.follow.new.assumptions in
    let b = c.follow.new.store.live in
    let e = c.in_ok-slot.ensures in
    let visited = loop-visited (goal.at.loop-done-preserved c).In_ok-slot in
    let inside : c.loop-done.done < length c.loop-done.assumptions.trail.lits = let low = c.loop-done-test.true in let n = c.len.ensures.value ∙ ap (λ t. length t.lits) c.trail.ensures in omega arith in
    let shown = c.lits.ensures.value ∙ ap (λ t. t.lits) c.trail-in-loop-done.ensures in
    let read = read_at x.trail.lits inside shown c.index-lits-done.is in
    let partners = simp c.in-None.is at e.met in
    let watched = visited_more _ _ _ _ _ _ e.followed.propagates before.done inside so_far.watched (λ s d is. simp (c.neg-l.ensures, read) at (partners s d is)) in record {
      count = visited.0;
      history = visited.1;
      watched = watched;
      begun = begun_again b c.begin.new.self.doubts.items (before.done + 1) y.trail.lits c.len-trues.result (c.len-trues.ensures.value ∙ ap (λ t. length t.lits) c.trail-in-loop-done-2.ensures) watched;
      followed = followed_on so_far.followed e.followed;
      uses = so_far.uses;
      slots = c.follow.ensures.slots ∙ so_far.slots;
    }

pub returns-in-Some-clause-kept : goal.returns-in-Some-clause-kept
returns-in-Some-clause-kept c =
    let e = c.in_ok-slot.ensures in let so_far = c.loop-done.invariant in
    let visited = loop-visited (goal.at.returns-in-Some-clause-kept c).In_ok-slot in
    kept_grown _ _ _ _ _ _ (followed_on so_far.followed e.followed).propagates c.requires.kept
    (simp c.in-Some.is at e.conflict) visited.1 (λ quiet. absurd (true≢false quiet)) so_far.uses

pub returns-in-Some-clause-followed : goal.returns-in-Some-clause-followed
returns-in-Some-clause-followed c = followed_on c.loop-done.invariant.followed c.follow.ensures.followed

pub returns-clause-kept : goal.returns-clause-kept
returns-clause-kept c = let so_far = c.loop-done.invariant in let y = c.loop-done.assumptions in
    let e = so_far.followed.propagates in
    let past : length y.trail.lits ≤ c.loop-done.done = grind arith in
    let all = simp (take_all c.loop-done.done y.trail.lits past) at so_far.watched in
    let units = units_kept _ _ _ _ _ _ e (grind arith) in
    kept_grown _ _ _ _ _ _ e c.requires.kept (all, units) so_far.history (λ _. simp so_far.count so_far.watched) so_far.uses
