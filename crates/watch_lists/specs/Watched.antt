-- Watched literals: the first two of each clause of two literals or more that is no tautology (as
-- solvers and DRAT-trim have them; our own profile).
use Rattle.std.specs.FinMap as maps
use Rattle.std.specs.FinMap.{FinMap}
use Rattle.std.specs.Ordering.{nat_cmp}
use Rattle.std.specs.Prelude.{◌==◌, ◌||◌, ◌&&◌, ◌+◌, ◌*◌, ◌≤◌, Bool, not, false, [], ◌∷◌, true, ℕ}
use Rattle.std.specs.Prelude.{Option, Some, None, if◌then◌else◌, ◌≡◌, ◌<◌, List, IsSome, nat_le}
use Rattle.cnf_base.specs.Literals.{Literal, Clause, size}
use Rattle.cnf_base.specs.Maps.{sum_over}
use Rattle.clause_db.specs.Store.{is_tautology}
use Rattle.watch_lists.specs.Lists.{entries_in, entries_of, list_at, times_in, unfit_entries}
use Rattle.watch_lists.specs.declared.lists.WatchLists.{WatchLists}
use Rattle.watch_lists.specs.declared.watcher.Watcher.{Watcher}

-- whether a literal is one of the first two of a clause that has two or more
abbrev pub is_first : Clause → Literal → Bool
is_first [] l = false
is_first (a ∷ []) l = false
is_first (a ∷ b ∷ c) l = a == l || b == l

-- whether a clause watches a literal
abbrev pub watches : Clause → Literal → Bool
watches c l = is_first c l && not (is_tautology c)

-- whether a clause is a unit or empty: it has no two literals to watch
abbrev pub is_unit_or_empty : Clause → Bool
is_unit_or_empty [] = true
is_unit_or_empty (a ∷ []) = true
is_unit_or_empty (a ∷ b ∷ c) = false

-- whether a clause watches no literal
abbrev pub is_unwatched : Clause → Bool
is_unwatched c = is_unit_or_empty c || is_tautology c

-- ---- The lists

-- how many entries there are for a slot in the list of a literal
abbrev pub entries_for : Option Clause → Literal → ℕ
entries_for None l = 0
entries_for (Some c) l = if watches c l then 1 else 0

-- how many there are for it in the list of the unit and empty clauses
abbrev pub unit_for : Option Clause → ℕ
unit_for None = 0
unit_for (Some c) = if is_unit_or_empty c then 1 else 0

-- how many there are for it in the list of the tautologies
abbrev pub tautology_for : Option Clause → ℕ
tautology_for None = 0
tautology_for (Some c) = if is_tautology c then 1 else 0

-- a slot stands once in the lists of the two literals that its clause watches, and nowhere else,
-- each time in an entry that fits the clause
pub record IsListed (live : ℕ → Option Clause) (list_of : Literal → List Watcher) : Type 0 where
  pub watched : (l s : ℕ) → entries_of s (list_of l) ≡ entries_for (live s) l
  pub low : (s : ℕ) → IsSome (live s) → s < 2147483648
  pub fitting : (l s : ℕ) (c : Clause) → live s ≡ Some c → unfit_entries s c l (list_of l) ≡ 0

-- a slot of a unit or empty clause stands once in this list, and nothing else does
pub record IsUnitList (live : ℕ → Option Clause) (units : List ℕ) : Type 0 where
  pub listed : (s : ℕ) → times_in s units ≡ unit_for (live s)

-- a slot of a tautology stands once in this list, and nothing else does
pub record IsTautologyList (live : ℕ → Option Clause) (tautologies : List ℕ) : Type 0 where
  pub listed : (s : ℕ) → times_in s tautologies ≡ tautology_for (live s)

-- the lists of the literals that the clause watches have one entry more for the slot, and no other
-- list has more or fewer
abbrev pub HasEntry : Clause → ℕ → WatchLists → WatchLists → Type 0
HasEntry c slot lists lists_without =
    (l s : ℕ) → entries_of s (list_at lists l) ≡
    entries_of s (list_at lists_without l) + (if watches c l && s == slot then 1 else 0)

-- no entry has come that doesn't fit its clause, where the slot has this one
abbrev pub AddsFitting : Clause → ℕ → WatchLists → WatchLists → Type 0
AddsFitting c slot before after =
    (l s : ℕ) (d : Clause) → (s ≡ slot → d ≡ c) →
    unfit_entries s d l (list_at after l) ≤ unfit_entries s d l (list_at before l)

-- the lists have the same entries
pub record AreUnchanged (before after : WatchLists) : Type 0 where
  pub lists : (l : Literal) → list_at after l ≡ list_at before l
  pub entries : entries_in after ≡ entries_in before

-- ---- All clauses

-- how many of the clauses have two literals or more and are no tautology
abbrev pub watched_clauses : FinMap nat_cmp Clause → ℕ
watched_clauses live =
    sum_over (λ c. if nat_le 2 (size c) && not (is_tautology c) then 1 else 0) live

-- each clause that is watched stands in the two lists where it should, and nothing else does
pub record HasAll (live : FinMap nat_cmp Clause) (lists : WatchLists) : Type 0 where
  pub each : IsListed (maps.get live) (list_at lists)
  pub two_each : entries_in lists ≡ 2 * watched_clauses live
