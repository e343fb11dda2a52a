-- Watch lists, and the slots of the clauses that need none.
use Rattle.std.specs.Prelude.{ℕ, ◌==◌, List, sum_by, if◌then◌else◌, ◌&&◌, not, Option, Some, None}
use Rattle.std.specs.Prelude.{slice_get, Bool, length}
use Rattle.cnf_base.specs.Literals.{Clause, has, Literal}
use Rattle.tables.specs.Lists as by_key
use Rattle.watch_lists.specs.declared.lists.WatchLists.{WatchLists}
use Rattle.watch_lists.specs.declared.watcher.Watcher.{Watcher}

-- how often a slot stands in a list
abbrev pub times_in : ℕ → List ℕ → ℕ
times_in s slots = sum_by (λ x. if x == s then 1 else 0) slots

-- how many entries of a list are of a slot
abbrev pub entries_of : ℕ → List Watcher → ℕ
entries_of s list = sum_by (λ w. if w.slot == s then 1 else 0) list

-- how many are of a slot and say that its clause is binary, or that it isn't
abbrev pub marked_entries : ℕ → Bool → List Watcher → ℕ
marked_entries s is_binary list = sum_by (λ w.
    if w.slot == s && (if is_binary then w.is_binary else not w.is_binary) then 1 else 0) list

-- whether an entry in the list of a literal `l` fits a clause: its blocking literal, `other`, is of
-- the clause, and it says that the clause is binary just where that has two literals; then `other`
-- isn't `l`
abbrev pub fits : Clause → Literal → Literal → Bool → Bool
fits c l other is_binary =
    has c other && (if is_binary then length c == 2 && not (other == l) else not (length c == 2))

-- how many entries of the list of a literal `l` are of a slot and don't fit the clause
abbrev pub unfit_entries : ℕ → Clause → Literal → List Watcher → ℕ
unfit_entries s c l list =
    sum_by (λ w. if w.slot == s && not (fits c l w.blocking w.is_binary) then 1 else 0) list

-- the slot of an entry, if there is one
abbrev pub slot_of : Option Watcher → ℕ
slot_of None = 0
slot_of (Some w) = w.slot

-- the slot of the entry at a place
abbrev pub slot_at : List Watcher → ℕ → ℕ
slot_at list place = slot_of (slice_get list place)

-- ---- By literal

-- the entries of the list of a literal
abbrev pub list_at : WatchLists → Literal → List Watcher
list_at watches l = by_key.list_at watches.lists l

-- whether a literal has a list
abbrev pub has_list_at : WatchLists → Literal → Bool
has_list_at watches l = by_key.has_list_at watches.lists l

-- the entries of all lists; each field has to be named here; those of the places have numbers, of
-- lists and of what stands in them
abbrev pub entries_in : WatchLists → ℕ
entries_in watches =
    let record { lists = lists; places = record { noted = _; tables = _; wanted = _ } } = watches in
    by_key.entries_in lists
