use Rattle.{ids.specs.Code.Far.far_at, std.proofs.Common.{slice_index, ℕ, ◌+◌, ◌-◌, ◌<◌, ◌≡◌, ◌≢◌}}
use Rattle.ids.proofs.by_slot.note_far.Given as goal

abbrev pub invariant-loop-id : goal.invariant-loop-id
invariant-loop-id l = record {
  fits : l.from < 18446744073709551616;
  noted : (k : ℕ) → k < l.from → far_at l.far k ≢ 0 → far_at l.far (slice_index l.by_slot.items (far_at l.far k - 1)) ≡ far_at l.far k;
  others : (s : ℕ) → far_at l.far (slice_index l.by_slot.items s) ≢ s + 1 → slice_index l.by_slot.items s ≡ slice_index l.initial.by_slot.items s;
}

abbrev pub decreases-loop-id : goal.decreases-loop-id
decreases-loop-id l = 18446744073709551616 - l.from
