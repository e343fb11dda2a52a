-- The identifiers that are noted for slots, through a change.
use Rattle.{live_clauses.specs.Code.LiveClauses.AreNoted, std.proofs.Common.{List, Some, rules}}
use Rattle.std.{proofs.Common.{slice_index, ℕ, ◌≡◌}, specs.{FinMap.FinMap, Ordering.nat_cmp}}
use Rattle.std.specs.FinMap as maps

-- each slot has an identifier that is bound to it, and no two are
pub all_noted : (ids : FinMap nat_cmp ℕ) (by_slot : List ℕ) → ((j k s : ℕ) → maps.get ids j ≡ Some s → maps.get ids k ≡ Some s → j ≡ k) → ((k s : ℕ) → maps.get ids k ≡ Some s → maps.get ids (slice_index by_slot s) ≡ Some s) →
    AreNoted by_slot ids
all_noted ids by_slot own bound k s at = search rules
