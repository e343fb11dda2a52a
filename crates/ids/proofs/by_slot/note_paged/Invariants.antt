use Rattle.std.proofs.Common.{◌≡◌, ◌≢◌, ℕ, ◌-◌, ◌/◌, ◌<◌, slice_index}
use Rattle.ids.specs.Code.Ids.{entry_at, page_at, place}
use Rattle.ids.proofs.by_slot.note_paged.Given as goal

abbrev pub invariant-loop-at : goal.invariant-loop-at
invariant-loop-at l = (k : ℕ) → place (page_at l.directory (k / 1024)) k < l.at → entry_at l.directory l.pages k ≢ 0 →
    entry_at l.directory l.pages (slice_index l.by_slot.items (entry_at l.directory l.pages k - 1)) ≡ entry_at l.directory l.pages k
