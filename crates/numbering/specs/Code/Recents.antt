-- Names that were looked up last, with their numbers, beside a number for each variable.
use Rattle.std.specs.Prelude.{ℕ, ◌<◌, ◌≡◌, ◌≢◌, length, slice_index_or}
use Rattle.numbering.specs.declared.recent.Entry.{Entry}
use Rattle.numbering.specs.declared.recent.Recents.{Recents}
use Rattle.numbering.specs.declared.recent.TheConstants.{BLANK}

-- an entry with a name has its number, which isn't 0
abbrev pub IsOf : (ℕ → ℕ) → Entry → Type 0
IsOf number e = e.name ≢ 0 → (e.number ≢ 0) × (number e.name ≡ e.number)

-- each entry of each place is so
pub record AreRecent (number : ℕ → ℕ) (recents : Recents) : Type 0 where
  pub last : (k : ℕ) → k < length recents.pairs.items → IsOf number (slice_index_or recents.pairs.items k BLANK).last
  pub before : (k : ℕ) → k < length recents.pairs.items → IsOf number (slice_index_or recents.pairs.items k BLANK).before
