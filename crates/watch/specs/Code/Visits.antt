-- What visits of clauses do.
use Rattle.std.specs.FinMap as maps
use Rattle.std.specs.FinMap.{FinMap}
use Rattle.std.specs.Ordering.{nat_cmp}
use Rattle.std.specs.Prelude.{List, IsTrue, ◌≡◌, ◌<◌, ◌≤◌, ◌+◌, ◌-◌, length, slice_index, take}
use Rattle.std.specs.Prelude.{IsFalse, ℕ, Option, Some, None, [], ◌==◌, if◌then◌else◌, slice_get}
use Rattle.cnf_base.specs.Literals.{Literal, has, complement, variable, Clause, size}
use Rattle.trail.specs.Trail.{HasRoomForAll, TrailState}
use Rattle.propagation.specs.Assumptions.{AssumptionsState}
use Rattle.watch_lists.specs.Cursor.{CursorState}
use Rattle.watch_lists.specs.Lists.{entries_in, entries_of, fits, has_list_at, list_at, slot_at}
use Rattle.clause_db.specs.Store.{is_tautology}
use Rattle.watch_lists.specs.Watched.{IsListed, watches}
use Rattle.root_literals.specs.Order.{each_in_order}
use Rattle.root_literals.specs.Watched.{IsMet}
use Rattle.root_literals.specs.Code.Propagated.{AreFalse, CanSet, IsUnit, PropagatesTo}
use Rattle.watch_lists.specs.declared.lists.WatchLists.{WatchLists}
use Rattle.watch.specs.declared.visit.Exchange.{Exchange}
use Rattle.watch.specs.declared.visit.Visit.TheVariants.{Stays, Moves, Unit, Conflict}
use Rattle.watch.specs.declared.visit.Visit.{Visit}
use Rattle.watch.specs.declared.follow.Found.{Found}
use Rattle.watch.specs.declared.follow.Found.TheVariants as found
use Rattle.watch.specs.declared.follow.FoundAt.{FoundAt}
use Rattle.watch_lists.specs.declared.watcher.Watcher.{Watcher}

-- the clause can watch the literal `next` in place of `l`
pub record IsExchange (c : Clause) (l : Literal) (x : Exchange) : Type 0 where
  -- `l` stands at one of the two places that are watched, and `other` at the other one
  pub from : ℕ
  pub from_low : from < 2
  pub from_is : slice_index c from ≡ l
  pub other_is : slice_index c (1 - from) ≡ x.other
  -- `next` stands at another place
  pub to_high : 2 ≤ x.to
  pub to_inside : x.to < length c
  pub to_is : slice_index c x.to ≡ x.next

-- so can the clause in the slot, which has no literal twice
pub record IsExchangeAt (live : FinMap nat_cmp Clause) (slot : ℕ) (l : Literal) (x : Exchange)
    : Type 0 where
  pub clause : Clause
  pub at : maps.get live slot ≡ Some clause
  pub different : size clause ≡ length clause
  pub apart : IsFalse (is_tautology clause)
  pub exchange : IsExchange clause l x

-- the entry, in the list of the literal, fits the clause in its slot, which watches the literal
pub record IsEntryOf (live : FinMap nat_cmp Clause) (entry : Watcher) (l : Literal) : Type 0 where
  pub clause : Clause
  pub at : maps.get live entry.slot ≡ Some clause
  pub watched : IsTrue (watches clause l)
  pub fitting : IsTrue (fits clause l entry.blocking entry.is_binary)

-- what is to be done with a clause that watches a literal which became false
abbrev pub IsVisit : List Literal → Clause → Literal → Visit → Type 0
IsVisit trues c l (Stays other) = IsTrue (has c other) × IsTrue (has trues other)
IsVisit trues c l (Moves x) = IsExchange c l x × IsFalse (has trues (complement x.next))
IsVisit trues c l (Unit m) = IsUnit trues c m
IsVisit trues c l Conflict = AreFalse trues c

-- ---- All lists

-- what follows from the literals that are true can be sought
pub record CanFollow (live : FinMap nat_cmp Clause) (lists : WatchLists) (held : AssumptionsState)
    (reason_of : Literal → Option ℕ) : Type 0 where
  -- no two literals share a list
  -- each clause stands in the lists where it should
  pub listed : IsListed (maps.get live) (list_at lists)
  -- more literals can become true
  pub can_set : CanSet live held reason_of

-- visits moved clauses from list to list and made literals true, and no more
pub record Followed (before after : FinMap nat_cmp Clause) (lists lists_now : WatchLists)
    (held now : AssumptionsState) (reason_of reason_now : Literal → Option ℕ) : Type 0 where
  pub listed : IsListed (maps.get after) (list_at lists_now)
  -- there are as many entries as before
  pub entries : entries_in lists_now ≡ entries_in lists
  -- what is true now was forced
  pub propagates : PropagatesTo before after held now reason_of reason_now

-- ---- A list in hand

-- the lists with the one that is in hand
abbrev pub with_list : WatchLists → Literal → List Watcher → Literal → List Watcher
with_list lists l list k = if k == l then list else list_at lists k

-- the list of the literal is in hand
pub record IsInHand (live : FinMap nat_cmp Clause) (lists : WatchLists) (list : List Watcher)
    (l : Literal) : Type 0 where
  -- the literal has a list
  pub known : IsTrue (has_list_at lists l)
  -- an empty one stands in its place
  pub taken : list_at lists l ≡ []
  -- no two literals share a list
  -- with it each clause stands in the lists where it should
  pub listed : IsListed (maps.get live) (with_list lists l list)

-- the clauses of the list in hand can be visited
pub record CanVisit (live : FinMap nat_cmp Clause) (lists : WatchLists) (list : List Watcher)
    (held : AssumptionsState) (reason_of : Literal → Option ℕ) (l : Literal) : Type 0 where
  pub hand : IsInHand live lists list l
  -- the literal became false
  pub is_false : IsTrue (has held.trail.lits (complement l))
  -- more literals can become true
  pub can_set : CanSet live held reason_of

-- visits moved clauses from the list in hand to others and made literals true, and no more
pub record Visited (before after : FinMap nat_cmp Clause) (lists lists_now : WatchLists)
    (list list_now : List Watcher) (held now : AssumptionsState)
    (reason_of reason_now : Literal → Option ℕ) (l : Literal) : Type 0 where
  pub hand : IsInHand after lists_now list_now l
  -- there are as many entries as before
  pub entries : entries_in lists_now + length list_now ≡ entries_in lists + length list
  -- what is true now was forced
  pub propagates : PropagatesTo before after held now reason_of reason_now

-- visits moved clauses from the list in hand to others and made no literal true, whatever is held
-- beside these true literals
abbrev pub VisitsUnder : TrailState → FinMap nat_cmp Clause → FinMap nat_cmp Clause → WatchLists →
    WatchLists → List Watcher → List Watcher → Literal → Type 0
VisitsUnder trail before after lists lists_now list list_now l =
    (held : AssumptionsState) (reason_of : Literal → Option ℕ) → held.trail ≡ trail →
    Visited before after lists lists_now list list_now held held reason_of reason_of l

-- the next entry is of the slot
abbrev pub IsNextSlot : CursorState → ℕ → Type 0
IsNextSlot cursor slot =
    (cursor.visited < length cursor.entries) × (slot_at cursor.entries cursor.visited ≡ slot)

-- what was found of a clause: its only literal that isn't false, or that there is none
abbrev pub IsFound : List Literal → Clause → Found → Type 0
IsFound trues c (found.Unit m) = IsUnit trues c m
IsFound trues c found.Conflict = AreFalse trues c

-- it was found of the clause of the next entry, which is this
pub record IsFoundNext (live : FinMap nat_cmp Clause) (cursor : CursorState) (trues : List Literal)
    (entry : Watcher) (found : Found) : Type 0 where
  pub next : slice_get cursor.entries cursor.visited ≡ Some entry
  pub clause : Clause
  pub at : maps.get live entry.slot ≡ Some clause
  pub holds : IsFound trues clause found

-- of the clause of the next entry, or of none, and then there is no next entry
abbrev pub IsFoundAfter : FinMap nat_cmp Clause → CursorState → List Literal → Option FoundAt → Type 0
IsFoundAfter live cursor trues (Some f) = IsFoundNext live cursor trues f.entry f.found
IsFoundAfter live cursor trues None = length cursor.entries ≤ cursor.visited

-- how many entries are yet to be visited
abbrev pub entries_left : CursorState → ℕ
entries_left cursor = length cursor.entries - cursor.visited

-- the clauses of the entries that were visited and kept have a true literal
abbrev pub AreMet : FinMap nat_cmp Clause → CursorState → Literal → List Literal → Type 0
AreMet live cursor l trues =
    (s : ℕ) → 0 < entries_of s (take cursor.visited cursor.entries) →
    (c : Clause) → maps.get live s ≡ Some c → IsMet c l trues

-- there is room for the blocking literal of each entry
abbrev pub HasRoomForBlocking : List ℕ → List Watcher → Type 0
HasRoomForBlocking reserved entries =
    (k : ℕ) (e : Watcher) → slice_get entries k ≡ Some e →
    IsTrue (has reserved (variable e.blocking))

-- the clauses of the list in hand can be looked at
pub record CanLook (live : FinMap nat_cmp Clause) (lists : WatchLists) (cursor : CursorState)
    (trail : TrailState) (l : Literal) : Type 0 where
  -- there is room for all literals of the clauses
  pub room : HasRoomForAll trail.reserved (maps.get (each_in_order live))
  pub hand : IsInHand live lists cursor.entries l
  -- the literal became false
  pub is_false : IsTrue (has trail.lits (complement l))
  pub met : AreMet live cursor l trail.lits
