use Rattle.{ids.specs.Code.Ids.page_at, std.proofs.Common.{slice_index, ℕ, ◌-◌, ◌<◌, ◌≢◌, ◌≤◌}}
use Rattle.ids.proofs.map.next_number.Given as goal

abbrev pub invariant-loop-i : goal.invariant-loop-i
invariant-loop-i l = record {
  found : l.least ≢ 18446744073709551615 → (l.from < l.least) × (page_at l.directory (l.least - 1) ≢ 0);
  fits : l.least ≤ 18446744073709551615;
  least : (j : ℕ) → j < l.i → l.from < slice_index l.pages.numbers.items j → page_at l.directory (slice_index l.pages.numbers.items j - 1) ≢ 0 → l.least ≤ slice_index l.pages.numbers.items j;
}
