-- What holds of watched literals, as assumptions come and go.
use Rattle.root_literals.proofs.RootLemmas.Shown.{reason_shown}
use Rattle.{clause_db.specs.Store.{is_tautology, literals_in}, cnf_base.proofs.SetLemmas.same_there}
use Rattle.cnf_base.proofs.MapLemmas.{removed_back, sum_empty, sum_insert, sum_remove}
use Rattle.cnf_base.specs.Literals.{Clause, Literal, complements, has, size, variable}
use Rattle.propagation.{proofs.PropagationLemmas.Exact.begins_on, specs.Slots.unit_or_empty_clauses}
use Rattle.propagation.proofs.PropagationLemmas.{Exact.longer_from, Reduced.unless_refused}
use Rattle.propagation.proofs.PropagationLemmas.Scan.{assuming_alike, assuming_from, held_reserved}
use Rattle.propagation.specs.Assumptions.{Assuming, AssumingFrom, Assumption, AssumptionsState}
use Rattle.propagation.specs.{Assumptions.{IsThere, Propagation, roots_in}, Code.Closure.AreForced}
use Rattle.propagation.specs.{Code.Scan.AssumesOn, declared.clause_source.ClauseSource.ClauseSource}
use Rattle.propagation.specs.{Code.Scan.IsHeld, declared.answer.Answer.{Answer, TheVariants.Quiet}}
use Rattle.propagation.specs.declared.clause_source.ClauseSource.TheVariants.{Given, Stored}
use Rattle.root_literals.proofs.RootLemmas.Carried.{kept_carried, roots_alone, roots_part}
use Rattle.root_literals.proofs.RootLemmas.{Kept.kept_nothing, Terms.{Clauses, ReasonOf, shown}}
use Rattle.root_literals.proofs.RootLemmas.Reasons.{alive_alike, alive_clause, counted_in_order}
use Rattle.root_literals.proofs.RootLemmas.Reasons.{counted_same, get_ordered, has-in_order}
use Rattle.root_literals.proofs.RootLemmas.Reasons.{literals_ordered, ordered_alike, ordered_empty}
use Rattle.root_literals.proofs.RootLemmas.Reasons.{ordered_remove, part_alike, reasoned_forced}
use Rattle.root_literals.proofs.RootLemmas.Reasons.{reasoned_same, reasoned_some, seen_there}
use Rattle.root_literals.proofs.RootLemmas.Reasons.{size-in_order, sum_ordered, there_seen}
use Rattle.root_literals.proofs.RootLemmas.{Shown.{closure_held, closure_shown}, Watched.front_part}
use Rattle.root_literals.specs.{Code.Propagated.PropagatesTo, Order.{each_in_order, in_order}}
use Rattle.root_literals.specs.{Roots.{IsKept, IsStanding, is_up_to_date}, Uses.times}
use Rattle.{root_literals.specs.Watched.{AreWatched, IsPart, IsWatched}, theory.specs.Sets.SameSet}
use Rattle.root_literals.specs.declared.{kept.Kept.TheVariants.WithoutUnits, roots.Roots.Roots}
use Rattle.std.proofs.Common.{Bool, IfOk, IsSome, List, None, Result, Some, [], ap, arith, cond}
use Rattle.std.proofs.Common.{drop, eqb, false, filter, is_err, is_some, length, nat_le, refl, ◌≤◌}
use Rattle.std.proofs.Common.{slice_index, sym, take, true, ℕ, ◌&&◌, ◌+◌, ◌<◌, ◌||◌, ◌∙◌, ◌∷◌, ◌≡◌}
use Rattle.std.proofs.lemmas.{Bool.{false_from_ne_true, false≢true}, Option.{none-some, same_Some}}
use Rattle.{tables.specs.ByKey.at, watch_lists.specs.Watched.{unit_for, watched_clauses}}
use Rattle.{theory.specs.Propagation.Live, watch_lists.specs.declared.lists.WatchLists.WatchLists}
use Rattle.trail.{proofs.TrailLemmas.Longer.has_begun, specs.Trail.{HasRoom, HasRoomForAll}}
use Rattle.watch.specs.Code.{ClauseSource.{HasRoomGiven, clause_of}, Visits.Followed}
use Rattle.watch.specs.Code.State.{AddsRoom, AreLists, HaveReasons, IsWatch}
use Rattle.watch_lists.proofs.WatchListsLemmas.{Entries.times_has, Watched.tautology_alike}
use Rattle.watch_lists.proofs.WatchListsLemmas.Made.{added, all_added, all_removed, is_counted}
use Rattle.watch_lists.proofs.WatchListsLemmas.Made.{long_is, low_added, low_left, removed}
use Rattle.watch_lists.specs.Lists.{entries_in, entries_of, list_at, times_in, unfit_entries}
use Rattle.watch_lists.specs.Watched.{AddsFitting, AreUnchanged, HasAll, HasEntry, IsTautologyList}
use Rattle.watch_lists.specs.Watched.{IsUnitList, is_unit_or_empty, is_unwatched, tautology_for}
use Rattle.std.specs.FinMap as maps

-- ---- Numbers

tautology-in_order : (c : Clause) → is_tautology (in_order c) ≡ is_tautology c
tautology-in_order = grind (arith, tautology_alike, has-in_order)

pub watched_shown : (live : Clauses) → watched_clauses (each_in_order live) ≡ watched_clauses live
watched_shown = grind (arith, sum_ordered, is_counted, size-in_order, tautology-in_order)

pub units_shown : (live : Clauses) → unit_or_empty_clauses (each_in_order live) ≡ unit_or_empty_clauses live
units_shown = grind (arith, sum_ordered, size-in_order)

module _ (before after : Clauses) (same : each_in_order after ≡ each_in_order before) where
  watched_alike : watched_clauses after ≡ watched_clauses before
  watched_alike = cc (watched_shown after, watched_shown before)

  units_alike : unit_or_empty_clauses after ≡ unit_or_empty_clauses before
  units_alike = cc (units_shown after, units_shown before)

-- ---- The lists as clauses come and go, and before they are made

unit_weight : (c : Clause) → size c ≡ length c → cond {A = ℕ} (nat_le 2 (size c)) 0 1 ≡ cond (is_unit_or_empty c) 1 0
unit_weight = grind (arith, long_is)

pub lists_low : (loading : Bool) (live : Clauses) (lists : WatchLists) → AreLists loading live lists → (s : ℕ) → IsSome (maps.get live s) → s < 2147483648
lists_low = grind arith

pub loaded_all : (loading : Bool) (live : Clauses) (lists : WatchLists) → loading ≡ false → AreLists loading live lists → HasAll live lists
loaded_all = grind arith

-- the lists have the entries of one clause more
pub record HaveEntriesOf (c : Clause) (slot : ℕ) (loading : Bool) (lists lists2 : WatchLists)
    (units units2 : List ℕ) : Type 0 where
  pub entries : loading ≡ false → HasEntry c slot lists2 lists
  pub unit_times : (s : ℕ) →
      times_in s units2 ≡ times_in s units + cond (is_unit_or_empty c && eqb s slot) 1 0
  pub more : entries_in lists2 ≡ entries_in lists + cond (loading || is_unwatched c) 0 2
  pub longer : length units2 ≡ length units + cond (is_unit_or_empty c) 1 0

-- ---- Levels

are_kept : (a b : Clauses) (x y : AssumptionsState) (r t : ReasonOf) → PropagatesTo a b x y r t →
    (lits : List Literal) → IsPart lits x.trail.lits → (assumptions : List Assumption)
    (starts : List ℕ) → AreWatched (maps.get a) lits assumptions starts →
    AreWatched (maps.get b) lits assumptions starts
are_kept a b x y r t carried lits part [] starts watched = tt
are_kept a b x y r t carried lits part (last ∷ rest) [] watched = tt
are_kept a b x y r t carried lits part (last ∷ rest) (start ∷ starts) watched =
    (λ quiet. carried.kept [] lits lits part part (watched.0 quiet), are_kept a b x y r t carried (take start lits) (λ l h. part l (front_part start lits l h)) rest starts watched.1)

-- ---- One more assumption

module _ (live live2 : Clauses) (lists lists2 : WatchLists) (units : List ℕ) (roots roots2 : Roots)
    (before after found : AssumptionsState) (watch : IsWatch false live lists units roots before)
    (followed : Followed live live2 lists lists2 after found (at roots.reasons) (at roots2.reasons))
    (as_before : roots2 ≡ record roots { reasons = roots2.reasons })
    (begins : take (length before.trail.lits) after.trail.lits ≡ before.trail.lits) where
  abbrev carried : PropagatesTo live live2 after found (at roots.reasons) (at roots2.reasons)
  carried = followed.propagates

  as_known : roots2.kept ≡ roots.kept
  as_known = ap (λ r. r.kept) as_before

  begins_found : take (length before.trail.lits) found.trail.lits ≡ before.trail.lits
  begins_found = grind (arith, begins_on, longer_from)

  below : AreWatched (maps.get live2) before.trail.lits before.assumptions before.starts
  below = are_kept _ _ _ _ _ _ carried _ (λ l h. grind (arith, has_begun)) _ _ watch.watched

  roots_below : IsKept live2 roots2 (roots_in before.trail.lits before.assumptions before.starts)
  roots_below = kept_carried _ _ _ _ _ _ _ carried as_before (grind (arith, has_begun, roots_part)) watch.kept

  watch_with : (last : AssumptionsState) → SameSet last.trail.reserved before.trail.reserved → IsHeld (each_in_order live) (AreForced (shown live)) last → AreWatched (maps.get live2) last.trail.lits last.assumptions last.starts →
      IsKept live2 roots2 (roots_in last.trail.lits last.assumptions last.starts) → IsStanding roots2.kept last.assumptions → IsWatch false live2 lists2 units roots2 last
  watch_with last reserved scan watched kept standing = record {
    scan = grind arith;
    listed = record { each = followed.listed; two_each = grind (arith, watched_alike) };
    rest = record { listed = λ s. watch.rest.listed s ∙ sym (carried.units s) };
    watched = watched;
    one_each = grind (arith, units_alike);
    kept = kept;
    standing = standing;
    noted = λ l h. carried.noted l (watch.noted l (sym (reserved (variable l)) ∙ h));
  }

  -- it is answered
  pub watch_answered : is_up_to_date roots.kept ≡ true → (last : AssumptionsState) (answer : Answer) (all : List Literal) → last.trail ≡ found.trail → last.assumptions ≡ record { answer = answer; assumed = all } ∷ before.assumptions →
      last.starts ≡ length before.trail.lits ∷ before.starts → (answer ≡ Quiet → IsWatched (maps.get live2) found.trail.lits found.trail.lits) → SameSet last.trail.reserved before.trail.reserved → IsHeld (each_in_order live) (AreForced (shown live)) last →
      IsWatch false live2 lists2 units roots2 last
  watch_answered up last answer all trail stand starts quiet reserved scan = grind (arith, watch_with, begins_found, below, roots_below, as_known)

  -- it is taken back
  pub watch_undone : (last : AssumptionsState) (all : Assumption) → found.assumptions ≡ all ∷ before.assumptions → found.starts ≡ length before.trail.lits ∷ before.starts → last.assumptions ≡ drop 1 found.assumptions →
      last.starts ≡ drop 1 found.starts → last.trail.lits ≡ take (slice_index found.starts 0) found.trail.lits → SameSet last.trail.reserved before.trail.reserved → IsWatch false live2 lists2 units roots2 last
  watch_undone last all stand starts assumptions_are starts_are lits_are reserved =
      let same_starts = starts_are ∙ ap (drop 1) starts in
      let same_lits = lits_are ∙ ap (λ ns. take (slice_index ns 0) found.trail.lits) starts ∙ begins_found in
      watch_with last reserved (grind (arith, held_reserved)) (grind (arith, below))
      (grind (arith, roots_below)) (grind (arith, as_known))

-- ---- Where nothing changes but room and order

-- more room for variables, and for the reasons of their literals
pub watch_room : {loading : Bool} {live : Clauses}
    {lists : WatchLists} {units : List ℕ} {roots roots2 : Roots} {held held2 : AssumptionsState} →
    AddsRoom held held2 roots roots2 → HaveReasons held2.trail.reserved (at roots2.reasons) →
    IsWatch loading live lists units roots held → IsWatch loading live lists units roots2 held2
watch_room {live = live} {roots = roots} {roots2} {held} {held2} more noted watch =
    let lits = roots_in held.trail.lits held.assumptions held.starts in let kept = watch.kept in
    let old = λ (l : Literal) (h : has lits l ≡ true). more.reasons l (grind (arith, reasoned_some)) in record {
      scan = grind (arith, held_reserved);
      listed = watch.listed;
      rest = watch.rest;
      watched = grind arith;
      one_each = watch.one_each;
      kept = simp (more.lits, more.assumptions, more.starts) (record {
        noted = grind arith;
        reasoned = grind (arith, reasoned_same);
        known = simp more.kept kept.known;
        history = simp more.history kept.history;
        visited = grind arith;
        counted =
            counted_same _ _ _ _ _ more.counted more.times
            (counted_in_order _ _ _ _ _ _ refl old kept.counted);
      });
      standing = grind arith;
      noted = noted;
    }

-- the lists have the same entries, in any order, and none that doesn't fit has come
module _ (loading : Bool) (live : Clauses) (lists after : WatchLists)
    (same_entries : (l s : ℕ) → entries_of s (list_at after l) ≡ entries_of s (list_at lists l))
    (fewer_unfit : (l s : ℕ) (c : Clause) → maps.get live s ≡ Some c →
    unfit_entries s c l (list_at after l) ≤ unfit_entries s c l (list_at lists l))
    (as_many : entries_in after ≡ entries_in lists) where
  pub watch_same : (units : List ℕ) (roots : Roots) (held : AssumptionsState) →
      IsWatch loading live lists units roots held → IsWatch loading live after units roots held
  watch_same = grind arith

-- the lists were taken out and put back
pub watch_put_back : (loading : Bool) (live : Clauses) (lists after : WatchLists) (units : List ℕ) (roots : Roots) (held : AssumptionsState) → AreUnchanged lists after → IsWatch loading live lists units roots held → IsWatch loading live after units roots held
watch_put_back = grind (arith, watch_same)

-- ---- Where nothing is assumed

pub watch_alone : (loading : Bool) (live : Clauses) (lists : WatchLists) (units : List ℕ) (roots : Roots) (held : AssumptionsState) → held.assumptions ≡ [] → HasRoomForAll held.trail.reserved (shown live) →
    AreLists loading live lists → IsUnitList (maps.get live) units → length units ≡ unit_or_empty_clauses live → IsKept live roots held.trail.lits → HaveReasons held.trail.reserved (at roots.reasons) →
    IsWatch loading live lists units roots held
watch_alone = grind (arith, reasoned_forced, roots_alone)

-- what is kept there
pub alone_kept : (loading : Bool) (live : Clauses) (lists : WatchLists) (units : List ℕ) (roots : Roots) (held : AssumptionsState) → IsWatch loading live lists units roots held → held.assumptions ≡ [] → IsKept live roots held.trail.lits
alone_kept = grind (arith, roots_alone)

-- it is brought up to date
pub watch_refreshed : {live live2 : Clauses} {lists lists2 : WatchLists}
    {x y : AssumptionsState} {r s : ReasonOf} → Followed live live2 lists lists2 x y r s →
    {units : List ℕ} {roots roots2 : Roots} {held held2 : AssumptionsState} →
    IsWatch false live lists units roots held → held2.assumptions ≡ [] →
    SameSet held2.trail.reserved held.trail.reserved → IsKept live2 roots2 held2.trail.lits →
    ((l : Literal) → is_some (at roots.reasons l) ≡ true → is_some (at roots2.reasons l) ≡ true) →
    IsWatch false live2 lists2 units roots2 held2
watch_refreshed followed watch nothing reserved kept noted =
    watch_alone _ _ _ _ _ _ nothing (grind arith) (grind (arith, watched_alike))
    (grind arith) (grind (arith, units_alike)) kept (λ l h. grind arith)

-- ---- No clauses

pub watch_empty : (live : Clauses) (lists : WatchLists) (units : List ℕ) (roots : Roots)
    (held : AssumptionsState) → live ≡ maps.empty → entries_in lists ≡ 0 → units ≡ [] → roots.kept
    ≡ WithoutUnits → roots.history.visited.items ≡ [] → held.trail.lits ≡ [] → held.trail.reserved
    ≡ [] → held.assumptions ≡ [] → roots.uses.counted ≡ 0 → IsWatch true live lists units roots held
watch_empty = grind (arith, watch_alone, none-some, false≢true, sum_empty, nat_le, kept_nothing, maps.get-empty, ordered_empty)

-- ---- One clause more or less, where nothing is assumed

module _ (loading : Bool) (live after : Clauses) (lists lists2 : WatchLists) (units short2 : List ℕ) (roots roots2 : Roots) (held held2 : AssumptionsState) (watch : IsWatch loading live lists units roots held) (nothing : held2.assumptions ≡ [])
    (slot : ℕ) (c : Clause) (different : size c ≡ length c) (room : HasRoomForAll held2.trail.reserved (shown after)) (kept : IsKept after roots2 held2.trail.lits) (noted : HaveReasons held2.trail.reserved (at roots2.reasons)) where
  pub watch_added : maps.get live slot ≡ None → after ≡ maps.insert live slot c →
      slot < 2147483648 → HaveEntriesOf c slot loading lists lists2 units short2 →
      AddsFitting c slot lists lists2 → IsWatch loading after lists2 short2 roots2 held2
  watch_added free is low more fewer =
      let more_units = ap unit_or_empty_clauses is ∙ sum_insert (λ c. cond (nat_le 2 (size c)) 0 1) live slot c free in
      let weight_unit = unit_weight c different in let was_unit = watch.one_each in
      watch_alone _ _ _ _ _ _ nothing room (grind (arith, low_added, all_added))
      (record { listed = λ s. more.unit_times s ∙ added live after slot c free is unit_for refl (is_unit_or_empty c) refl s (times_in s units) (watch.rest.listed s) })
      (grind arith) kept noted

  pub watch_removed : maps.get live slot ≡ Some c → after ≡ maps.remove live slot →
      HaveEntriesOf c slot loading lists2 lists short2 units → AddsFitting c slot lists lists2 →
      IsWatch loading after lists2 short2 roots2 held2
  watch_removed there is more fewer =
      let fewer_units = sum_remove (λ c. cond (nat_le 2 (size c)) 0 1) live slot c there in
      let as_map_unit = ap unit_or_empty_clauses is in let weight_unit = unit_weight c different in
      let was_unit = watch.one_each in
      watch_alone _ _ _ _ _ _ nothing room (grind (arith, low_left, all_removed))
      (record { listed = λ s. removed live after slot c there is unit_for refl (is_unit_or_empty c) refl s (times_in s short2) (sym (more.unit_times s) ∙ watch.rest.listed s) })
      (grind arith) kept noted

-- what is seen, field by field
pub same_state : (live live2 : Clauses) (assumptions assumptions2 : List Assumption) (stored stored2 : ℕ) (has_refused : Bool) → live ≡ live2 → assumptions ≡ assumptions2 → stored ≡ stored2 →
    ◌≡◌ {A = Propagation} (record { live = live; assumptions = assumptions; stored = stored; has_refused = has_refused }) (record { live = live2; assumptions = assumptions2; stored = stored2; has_refused = has_refused })
same_state = grind arith

-- ---- Tautologies

tautology_shown : (live : Clauses) (s : ℕ) → tautology_for (shown live s) ≡ tautology_for (maps.get live s)
tautology_shown = grind (arith, get_ordered, tautology-in_order)

pub tautologies_there : (live : Clauses) (list : List ℕ) → IsTautologyList (shown live) list → IsTautologyList (maps.get live) list
tautologies_there = grind (arith, tautology_shown)

pub tautologies_none : (live : Clauses) (list : List ℕ) → live ≡ maps.empty → list ≡ [] → IsTautologyList (shown live) list
tautologies_none live list none empty = grind (arith, tautology_shown, maps.get-empty)

pub tautologies_added : (live after : Clauses) (list list2 : List ℕ) (slot : ℕ) (c : Clause) → IsTautologyList (shown live) list → maps.get live slot ≡ None → after ≡ maps.insert live slot c →
    ((s : ℕ) → times_in s list2 ≡ times_in s list + cond (is_tautology c && eqb s slot) 1 0) → IsTautologyList (shown after) list2
tautologies_added live after list list2 slot c listed free is times = record {
  listed = λ s.
      times s ∙ added live after slot c free is tautology_for refl (is_tautology c) refl s (times_in s list) (listed.listed s ∙ tautology_shown live s)
      ∙ sym (tautology_shown after s);
}

pub tautologies_removed : (live after : Clauses) (list list2 : List ℕ) (slot : ℕ) (c : Clause) →
    IsTautologyList (shown live) list → maps.get live slot ≡ Some c → after
    ≡ maps.remove live slot → ((s : ℕ) → times_in s list2 + cond (is_tautology c && eqb s slot) 1 0
    ≡ times_in s list) → IsTautologyList (shown after) list2
tautologies_removed live after list list2 slot c listed there is times = record {
  listed = λ s.
      removed live after slot c there is tautology_for refl (is_tautology c) refl s (times_in s list2) (grind (arith, tautology_shown))
      ∙ sym (tautology_shown after s);
}

-- ---- Assumptions of a part of a clause

module _ (live : Clauses) where
  -- there is a clause, if there is one that is shown
  pub source_there : (source : ClauseSource) (seen : Clauses) → each_in_order live ≡ seen → IsThere seen source → IsThere live source
  source_there = grind (arith, alive_alike)

  -- and room for it
  pub source_room : (source : ClauseSource) (reserved : List ℕ) → HasRoomForAll reserved (shown live) → IsThere live source → HasRoomGiven reserved source → HasRoom reserved (clause_of live source)
  source_room (Given lits) reserved room there given = given
  source_room (Stored slot) reserved room there given = λ l member.
      let d = alive_clause _ _ there in
      room.each slot (in_order d.0) (seen_there _ _ _ d.1) l (grind (arith, has-in_order))

  -- what is assumed of it is assumed of the clause that is shown
  pub assuming_source : {E : Type 0} (source : ClauseSource) (before after : Propagation) (held last : AssumptionsState) (keeps : Literal → Bool) (r : Result Answer E) →
      each_in_order live ≡ before.live → held.assumptions ≡ before.assumptions → before.has_refused ≡ false → after.live ≡ each_in_order live → after.stored ≡ literals_in after.live → after.assumptions ≡ last.assumptions → after.has_refused ≡ is_err r →
      AssumesOn (each_in_order live) held last (complements (filter keeps (clause_of live source))) r → AssumingFrom before after source keeps r
  assuming_source (Given lits) before after held last keeps r same held_is none live_is alone after_is refused assumed = grind (arith, assuming_from)
  assuming_source (Stored slot) before after held last keeps r same held_is none live_is alone after_is refused assumed = λ clause here.
      let w = there_seen live slot clause (ap (λ m. maps.get m slot) same ∙ here) in
      assuming_alike before after (complements (filter keeps w.0)) (complements (filter keeps clause)) r (grind (arith, part_alike))
      (grind (arith, assuming_from))

-- ---- Where memory was refused

module _ {E : Type 0} (before after : Propagation) (keeps : Literal → Bool) (r : Result Answer E) (is_refused : is_err r ≡ true) (same : after.live ≡ before.live) (alone : after.stored ≡ literals_in after.live) (refused : after.has_refused ≡ true) (stays : after.assumptions ≡ before.assumptions) where
  assuming_none : (added : List Literal) (q : Result Answer E) → is_err q ≡ true → Assuming before after added q
  assuming_none = grind (arith, false≢true)

  pub refused_source : (source : ClauseSource) → AssumingFrom before after source keeps r
  refused_source = grind (arith, assuming_none)

-- what is said of a clause that comes or goes
pub ruleset clause_steps = (removed_back, closure_held, closure_shown)

-- what is said of clauses that are shown where memory was refused
pub ruleset ordered_steps = (unless_refused, literals_ordered)

-- what is said of a clause that is inserted, of one that is removed, and of an assumption
pub ruleset insert_steps = (false_from_ne_true, times_has, same_there, same_Some, ordered_alike, get_ordered, literals_ordered, removed_back, same_state)

pub ruleset remove_steps = (alive_alike, alone_kept, lists_low, literals_ordered, loaded_all, ordered_remove, tautologies_there, watch_put_back)

pub ruleset assume_steps = (assuming_source, literals_ordered, refused_source, source_there)

-- what is said of entries of the lists
pub ruleset listed_steps = (loaded_all, watched_shown)

-- an answer that says something of the clause in the slot says it of the one that is shown
pub answer_shown : {E : Type 0} (live seen : Clauses)
    (slot : ℕ) (r : Result Bool E) (sought : Bool) (Says : Live → Clause → Type 0) →
    each_in_order live ≡ seen → ((d : Clause) → shown live slot ≡ Some d →
    ((c : Clause) → maps.get live slot ≡ Some c → Says (maps.get live) c) → Says (shown live) d) →
    IfOk r (λ b. b ≡ sought → (c : Clause) → maps.get live slot ≡ Some c → Says (maps.get live) c) →
    IfOk r (λ b. b ≡ sought → (d : Clause) → maps.get seen slot ≡ Some d → Says (maps.get seen) d)
answer_shown = grind arith

pub ruleset reason_steps = (alive_alike, answer_shown, reason_shown)
