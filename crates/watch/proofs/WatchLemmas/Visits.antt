-- Visits of clauses, one after the other, and what a look at one says.
use Rattle.cnf_base.proofs.{LiteralLemmas.complement-complement, MemberLemmas.{has_place, place_of}}
use Rattle.cnf_base.specs.Literals.{Clause, Literal, complement, has, variable}
use Rattle.{propagation.specs.Assumptions.AssumptionsState, trail.specs.declared.value.Value.Value}
use Rattle.root_literals.proofs.RootLemmas.Carried.{can_set_on, propagates_none, propagates_on}
use Rattle.root_literals.proofs.RootLemmas.{Carried.room_for, Reasons.{has-in_order, seen_there}}
use Rattle.root_literals.proofs.RootLemmas.{Terms.{Clauses, ReasonOf, shown}, Watched.met_unwatched}
use Rattle.root_literals.specs.{Code.Propagated.PropagatesTo, Watched.{IsMet, IsPart}}
use Rattle.std.proofs.Common.{Bool, List, Option, Some, [], ap, arith, cond, eq-eqb, eqb, eqb-true}
use Rattle.std.proofs.Common.{false, get_or, get_or-set_same, inl, inr, is_some, length, length-set}
use Rattle.std.proofs.Common.{length-take-le, map, ne_eqb, refl, remove, set, slice_get, take}
use Rattle.std.proofs.Common.{take-take, take_all, true, true≢false, ℕ, ◌+◌, ◌-◌, ◌/◌, ◌<◌, ◌∙◌}
use Rattle.std.proofs.{Common.{◌∷◌, ◌≡◌, ◌≢◌, ◌≤◌}, lemmas.Bool.false≢true}
use Rattle.std.proofs.lemmas.Bool.{and_from, and_parts, cases_eq, cases_lt, false_from_ne_true}
use Rattle.{std.proofs.lemmas.Bool.Decides.nat_tests, trail.proofs.TrailLemmas.Truth.consistent}
use Rattle.std.proofs.lemmas.{Grind.get_or_default_zero, List.Sums.{sum_by_more, sum_by_more_le}}
use Rattle.std.proofs.lemmas.List.{set-get_or, take-append-le, take-set, Edits.length-remove}
use Rattle.{theory.specs.Propagation.Live, watch_lists.proofs.WatchListsLemmas.Lists.entry_at}
use Rattle.trail.{proofs.TrailLemmas.Longer.has_begun, specs.declared.value.Value.TheVariants.False}
use Rattle.{trail.proofs.TrailLemmas.Values.fits_within, watch.proofs.WatchLemmas.Moves.entry_alive}
use Rattle.trail.specs.Trail.{HasNoVariableTwice, HasRoom, HasRoomForAll, TrailState, value_under}
use Rattle.watch.specs.Code.Visits.{AreMet, CanFollow, CanLook, CanVisit, Followed}
use Rattle.watch.specs.Code.Visits.{HasRoomForBlocking, IsEntryOf, IsFound, IsFoundAfter}
use Rattle.watch.specs.Code.Visits.{IsFoundNext, IsInHand, Visited, entries_left}
use Rattle.watch.specs.declared.follow.{Found.{Found, TheVariants.Unit}, FoundAt.FoundAt}
use Rattle.watch_lists.specs.{Cursor.CursorState, Watched.{IsListed, entries_for, watches}}
use Rattle.watch_lists.specs.Lists.{entries_of, fits, list_at}
use Rattle.watch_lists.specs.declared.{lists.WatchLists.WatchLists, watcher.Watcher.Watcher}
use Rattle.std.specs.FinMap as maps

-- a literal whose value isn't false isn't false
pub not_false : (trues : List Literal) → HasNoVariableTwice trues → (m : Literal) (v : Value) → v ≡ value_under trues m → (v ≡ False → ⊥) → has trues (complement m) ≡ false
not_false = grind (arith, false_from_ne_true, complement-complement, consistent)

module _ (trues : List Literal) (c : Clause) (l : Literal) (from : ℕ) (inside : from < 2) (long : 2 ≤ length c) (there : get_or c from 0 ≡ l) (m : Literal) (m_is : m ≡ get_or c (1 - from) 0)
    (l_false : has trues (complement l) ≡ true) (rest : (k : ℕ) → 2 ≤ k → k < length c → has trues (complement (get_or c k 0)) ≡ true) where
  pub others_false : (k : Literal) → has c k ≡ true → k ≢ m → has trues (complement k) ≡ true
  others_false = grind (arith, place_of, cases_eq, cases_lt)

  pub each_false : has trues (complement m) ≡ true → (k : Literal) → has c k ≡ true → has trues (complement k) ≡ true
  each_false = grind (arith, cases_eq, others_false)

  pub other_member : has c m ≡ true
  other_member = grind (arith, has_place)

-- ---- Entries that fit their clause

-- of a clause with a third literal
pub longer_fits : (c : Clause) (l other : Literal) → has c other ≡ true → 2 < length c → fits c l other false ≡ true
longer_fits = grind (arith, and_from, ne_eqb)

-- with another literal of the clause, which is true
pub kept_fits : (trues : List Literal) → HasNoVariableTwice trues → (c : Clause) (l was other : Literal) (is_binary : Bool) → fits c l was is_binary ≡ true → has trues (complement l) ≡ true → has c other ≡ true → has trues other ≡ true → fits c l other is_binary ≡ true
kept_fits = grind (arith, and_parts, true≢false, consistent, and_from, ne_eqb)

-- that an entry of a binary clause is blocked by
pub other_fits : (c : Clause) (l : Literal) {blocking other : Literal} {is_binary : Bool} → true ≡ is_binary → other ≡ blocking → fits c l blocking is_binary ≡ true → fits c l other true ≡ true
other_fits = grind arith

-- a binary clause has no third literal
pub no_third : (c : Clause) (l other : Literal) → watches c l ≡ true → fits c l other true ≡ true → (k : Literal) → has c k ≡ true → k ≢ other → k ≡ l
no_third [] l other watched fitting k member differ = absurd (false≢true watched)
no_third (a ∷ []) l other watched fitting k member differ = absurd (false≢true watched)
no_third (a ∷ b ∷ []) l other watched fitting k member differ = grind (arith, nat_tests)
no_third (a ∷ b ∷ x ∷ c) l other watched fitting k member differ = grind (arith, and_parts, eqb-true)

-- one that watches a false literal
module _ (trues : List Literal) (c : Clause) (l other : Literal) (watched : watches c l ≡ true) (fitting : fits c l other true ≡ true) (l_false : has trues (complement l) ≡ true) where
  pub binary_others : (k : Literal) → has c k ≡ true → k ≢ other → has trues (complement k) ≡ true
  binary_others = grind (arith, no_third)

  pub binary_all : has trues (complement other) ≡ true → (k : Literal) → has c k ≡ true → has trues (complement k) ≡ true
  binary_all = grind (arith, cases_eq, binary_others)

-- ---- The list that is in hand

module _ (live : Live) (lists : Literal → List Watcher) (l : Literal) (list : List Watcher) (listed : IsListed live (λ k. cond (eqb k l) list (lists k))) where
  pub in_list : (s : ℕ) → entries_of s list ≡ entries_for (live s) l
  in_list = grind (arith, eq-eqb)

  -- the slots before a place are others than the one at it
  pub front_apart : (place s : ℕ) (d : Watcher) → place < length list → 0 < entries_of s (take place list) → s ≢ (get_or list place d).slot
  front_apart = grind (arith, sum_by_more_le, eq-eqb, in_list)

-- where all clauses of its list have a true literal, all that watch the literal have
pub all_met : (live : Live) (l : Literal) (list : List Watcher) → ((s : ℕ) → entries_of s list ≡ entries_for (live s) l) → (trues : List Literal) (place : ℕ) → length list ≤ place →
    ((s : ℕ) → 0 < entries_of s (take place list) → (c : Clause) → live s ≡ Some c → IsMet c l trues) → (s : ℕ) (c : Clause) → live s ≡ Some c → IsMet c l trues
all_met live l list in_list trues place past visited s c is = grind (arith, in_list, take_all, met_unwatched)

-- ---- Lists that are the same

pub listed_alike : (live : Live) (first second : Literal → List Watcher) → ((k : Literal) → second k ≡ first k) → IsListed live first → IsListed live second
listed_alike = grind arith

-- a literal without a list
pub none_met : (live : Live) (lists : Literal → List Watcher) (l : Literal) → lists l ≡ [] → IsListed live lists → (trues : List Literal) (s : ℕ) (c : Clause) → live s ≡ Some c → IsMet c l trues
none_met live lists l none listed trues = all_met live l [] (λ s. grind arith) trues 0 (omega arith) (λ s some. absurd (omega (arith, some)))

-- the list that is taken out is in hand
pub hand_taken : (lists after : Literal → List Watcher) (l : Literal) (list : List Watcher) → list ≡ lists l → ((k : Literal) → after k ≡ cond (eqb k l) [] (lists k)) → (k : Literal) → cond (eqb k l) list (after k) ≡ lists k
hand_taken = grind (arith, cases_eq, eq-eqb, ne_eqb)

-- ---- The list after an entry was kept or taken out

pub same_cursor : (after : CursorState) (xs : List Watcher) (n : ℕ) → after.entries ≡ xs → after.visited ≡ n → after ≡ record { entries = xs; visited = n }
same_cursor = grind arith

-- an entry is put where it is
pub put_same : (list : List Watcher) (place : ℕ) (w : Watcher) → w ≡ get_or list place w → set list place w ≡ list
put_same = grind (arith, set-get_or)

front_removed : (list : List Watcher) (place : ℕ) → place < length list → take place (remove list place) ≡ take place list
front_removed = grind (arith, length-take-le, take-append-le, take-take)

module _ (live after : Clauses) (l : Literal) (trues more : List Literal) (part : IsPart trues more) (cursor now : CursorState) (slot : ℕ) (inside : cursor.visited < length cursor.entries)
    (met : AreMet live cursor l trues) (others : (s : ℕ) → s ≢ slot → maps.get after s ≡ maps.get live s) where
  -- the next entry is kept
  pub kept_met : (w : Watcher) → w.slot ≡ slot → now.entries ≡ set cursor.entries cursor.visited w → now.visited ≡ cursor.visited + 1 → ((c : Clause) → maps.get after slot ≡ Some c → IsMet c l more) → AreMet after now l more
  kept_met w of_slot entries visited here s there = elim (cases_eq s slot) [
    | inl same ↦ grind arith
    | inr ne ↦
        let list = set cursor.entries cursor.visited w in
        let len = length-set cursor.entries cursor.visited w in
        let split = sum_by_more (λ x. cond (eqb x.slot s) 1 0) list cursor.visited w (omega (arith, inside, len)) in
        let none : cond {A = ℕ} (eqb (get_or list cursor.visited w).slot s) 1 0 ≡ 0 = grind (arith, ne_eqb, get_or-set_same) in
        let same = ap (entries_of s) (take-set cursor.entries cursor.visited w) in
        grind arith
  ]

  -- it is taken out
  pub taken_met : now ≡ record { entries = remove cursor.entries cursor.visited; visited = cursor.visited } → ((s : ℕ) → 0 < entries_of s (take cursor.visited cursor.entries) → s ≢ slot) → AreMet after now l more
  taken_met = grind (arith, front_removed)

module _ (cursor now : CursorState) (inside : cursor.visited < length cursor.entries) where
  pub kept_fewer : (w : Watcher) → now.entries ≡ set cursor.entries cursor.visited w → now.visited ≡ cursor.visited + 1 → entries_left now + 1 ≡ entries_left cursor
  kept_fewer = grind (arith, length-set)

  pub taken_fewer : now ≡ record { entries = remove cursor.entries cursor.visited; visited = cursor.visited } → entries_left now + 1 ≡ entries_left cursor
  taken_fewer = grind (arith, length-remove)

-- ---- Visits, one after the other

-- they make no more literals true than there was room for
pub fits_on : {a b : Clauses} {x y : AssumptionsState} {r s : ReasonOf} → PropagatesTo a b x y r s → {t : TrailState} → t ≡ y.trail → HasNoVariableTwice t.lits →
    ((v : ℕ) → has (map variable t.lits) v ≡ true → has t.reserved v ≡ true) → length y.trail.lits ≤ length x.trail.reserved
fits_on = grind (arith, fits_within)

-- ---- The literals that are true, one after the other

-- the one at a place
pub read_at : (trues : List Literal) {shown : List Literal} {place p : ℕ} → place < length trues → shown ≡ trues → p ≡ get_or shown place p → p ≡ get_or trues place 0
read_at = grind (arith, get_or_default_zero)

-- its complement is false
pub false_at : (trues : List Literal) {shown : List Literal} {place p l : ℕ} → place < length trues → shown ≡ trues → p ≡ get_or shown place p → l ≡ complement p → has trues (complement l) ≡ true
false_at trues {shown} {place} {p} inside same read is =
    ap (λ k. has trues (complement k)) is ∙ ap (has trues) (grind (arith, complement-complement, read_at)) ∙ has_place _ _ inside

-- ---- All lists

pub followed_none : {a : Clauses} {lists : WatchLists} {x : AssumptionsState} {r : ReasonOf} → CanFollow a lists x r → Followed a a lists lists x x r r
followed_none {a} {lists} {x} {r} can = record { listed = can.listed; entries = refl; propagates = propagates_none a x r }

module _ {a b : Clauses} {lists lists_b : WatchLists} {x y : AssumptionsState} {r s : ReasonOf} where
  pub can_follow_on : CanFollow a lists x r → Followed a b lists lists_b x y r s → CanFollow b lists_b y s
  can_follow_on = grind (arith, can_set_on)

  pub followed_on : {c : Clauses} {lists_c : WatchLists} {z : AssumptionsState} {t : ReasonOf} → Followed a b lists lists_b x y r s → Followed b c lists_b lists_c y z s t → Followed a c lists lists_c x z r t
  followed_on {c} {lists_c} {z} {t} first second = record {
    listed = second.listed;
    entries = second.entries ∙ first.entries;
    propagates = propagates_on a b c x y z r s t first.propagates second.propagates;
  }

-- ---- The list in hand

-- the clause of the next entry
pub next_entry : {live : Clauses} {lists : WatchLists} {l : Literal} (cursor : CursorState) (entry : Watcher) → slice_get cursor.entries cursor.visited ≡ Some entry → IsInHand live lists cursor.entries l → IsEntryOf live entry l
next_entry {live} {lists} {l} cursor entry is hand =
    let e = entry_at cursor.entries cursor.visited entry is in
    let w = entry_alive (maps.get live) (list_at lists) l cursor.entries hand.listed cursor.visited entry e.0 e.1 in
    grind arith

-- what is found of its clause is found next
pub found_at : {live : Clauses} {lists : WatchLists} {l : Literal} {cursor : CursorState} {entry : Watcher} {trues : List Literal} {found : Found} → slice_get cursor.entries cursor.visited ≡ Some entry →
    IsInHand live lists cursor.entries l → ((c : Clause) → maps.get live entry.slot ≡ Some c → IsFound trues c found) → IsFoundNext live cursor trues entry found
found_at {cursor = cursor} {entry} is hand found = let w = next_entry cursor entry is hand in
    grind arith

pub visited_none : {a : Clauses} {lists : WatchLists} {list : List Watcher} {l : Literal} (x : AssumptionsState) (r : ReasonOf) → IsInHand a lists list l → Visited a a lists lists list list x x r r l
visited_none {a} x r hand = record { hand = hand; entries = refl; propagates = propagates_none a x r }

module _ {a b : Clauses} {lists lists_b : WatchLists} {list list_b : List Watcher} {x y : AssumptionsState} {r s : ReasonOf} {l : Literal} where
  pub can_visit_on : CanVisit a lists list x r l → Visited a b lists lists_b list list_b x y r s l → CanVisit b lists_b list_b y s l
  can_visit_on = grind (arith, has_begun, can_set_on)

  pub visited_on : {c : Clauses} {lists_c : WatchLists} {list_c : List Watcher} {z : AssumptionsState} {t : ReasonOf} → Visited a b lists lists_b list list_b x y r s l → Visited b c lists_b lists_c list_b list_c y z s t l →
      Visited a c lists lists_c list list_c x z r t l
  visited_on {c} {lists_c} {list_c} {z} {t} first second = record {
    hand = second.hand;
    entries = second.entries ∙ first.entries;
    propagates = propagates_on a b c x y z r s t first.propagates second.propagates;
  }

-- what was found of the clause of the next entry
pub found_next : {live : Clauses} {cursor : CursorState} {seen trues : List Literal}
    {o : Option FoundAt} → IsFoundAfter live cursor seen o → {f : FoundAt} {found : Found} →
    o ≡ Some f → f.found ≡ found → seen ≡ trues → IsFoundNext live cursor trues f.entry found
found_next = grind arith

-- there is room for a literal that is found to follow after visits
pub room_found : {a b d : Clauses} {lists lists_b lists_d : WatchLists} {list list_b list_d : List Watcher} {x y z : AssumptionsState} {r s t : ReasonOf} {l : Literal} → CanVisit a lists list x r l →
    Visited a b lists lists_b list list_b x y r s l → Visited b d lists_b lists_d list_b list_d y z s t l → {cursor : CursorState} {trues : List Literal} {entry : Watcher} {m : Literal} → IsFoundNext d cursor trues entry (Unit m) →
    (has z.trail.reserved (m / 2) ≡ true) × (is_some (t m) ≡ true)
room_found can first second {m = m} f = room_for (can_visit_on (can_visit_on can first) second).can_set _ f.clause f.at m f.holds.0

-- ---- Looks at clauses

-- there is room for the literals of a clause
pub room_in : (live : Clauses) {reserved : List ℕ} → HasRoomForAll reserved (shown live) → (slot : ℕ) (c : Clause) → maps.get live slot ≡ Some c → HasRoom reserved c
room_in live room slot c here m member = let shown = seen_there live slot c here in grind (arith, has-in_order)

-- so there is for those that stand in entries
pub room_for_blocking : {live : Clauses} {lists : WatchLists} {cursor : CursorState} {trail : TrailState} {l : Literal} → CanLook live lists cursor trail l → HasRoomForBlocking trail.reserved cursor.entries
room_for_blocking {live} {cursor = cursor} can k e is =
    let w = next_entry (record { entries = cursor.entries; visited = k }) e is can.hand in
    grind (arith, room_in, and_parts)

-- what is said of visits, one after the other
pub ruleset follow_steps = (can_follow_on, false_at)
