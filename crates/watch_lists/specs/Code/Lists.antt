-- How an entry of a watch list is found: by its slot and its mark in one number.
use Rattle.std.specs.Prelude.{ℕ, ◌==◌, ◌+◌, ◌*◌, List, sum_by, if◌then◌else◌, Option, Some, None}
use Rattle.std.specs.Prelude.{slice_get, Bool}
use Rattle.watch_lists.specs.declared.watcher.Watcher.{Watcher}

-- twice the slot, and one more for a binary clause
abbrev pub code_of : ℕ → Bool → ℕ
code_of slot is_binary = 2 * slot + (if is_binary then 1 else 0)

-- how many entries of a list have this number
abbrev pub entries_with : ℕ → List Watcher → ℕ
entries_with code list = sum_by (λ w. if code_of w.slot w.is_binary == code then 1 else 0) list

-- the number of an entry, if there is one
abbrev pub code_in : Option Watcher → ℕ
code_in None = 0
code_in (Some w) = code_of w.slot w.is_binary

-- the number of the entry at a place
abbrev pub code_at : List Watcher → ℕ → ℕ
code_at list place = code_in (slice_get list place)
