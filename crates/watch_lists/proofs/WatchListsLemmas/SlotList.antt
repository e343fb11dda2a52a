-- Slots by their places.
use Rattle.cnf_base.{proofs.MemberLemmas.{has_place, place_of as place_in}, specs.Literals.has}
use Rattle.std.proofs.Common.{List, None, Option, Some, arith, eqb, false, get_or, length, rules}
use Rattle.std.proofs.{Common.{true, ℕ, ◌<◌, ◌≡◌, ◌≤◌}, lemmas.Grind.get_or_default_zero}
use Rattle.watch_lists.{proofs.WatchListsLemmas.Lists.times_taken, specs.Code.SlotList.IsPlaced}

module _ (slots : List ℕ) (place_of : ℕ → Option ℕ) (placed : IsPlaced slots place_of) (s : ℕ) (there : has slots s ≡ true) where
  noted_at : (i : ℕ) × (i < length slots) × (get_or slots i 0 ≡ s) × (place_of s ≡ Some i)
  noted_at = search (rules, arith, place_in)

  pub placed_none : place_of s ≡ None → ⊥
  placed_none none = search (rules, arith, noted_at)

  pub placed_some : (p : ℕ) → place_of s ≡ Some p → (p < length slots) × (get_or slots p 0 ≡ s)
  placed_some p some = search (rules, arith, noted_at)

module _ (slots : List ℕ) (place_of : ℕ → Option ℕ) (placed : IsPlaced slots place_of) (s : ℕ) where
  pub absent_none : place_of s ≡ None → false ≡ has slots s
  absent_none none = search (rules, arith, place_in)

  pub absent_past : (p : ℕ) → place_of s ≡ Some p → length slots ≤ p → false ≡ has slots s
  absent_past p some past = search (rules, arith, place_in)

  pub there_if : (p : ℕ) → place_of s ≡ Some p → p < length slots → eqb (get_or slots p 0) s ≡ has slots s
  there_if p some low = search (rules, arith, has_place, placed_some)

-- what is said of a slot and its place
pub ruleset place_steps = (placed_none, placed_some, times_taken, absent_none, there_if, get_or_default_zero)
