use Rattle.std.proofs.Common.{◌≡◌, ℕ, ◌<◌, ◌^◌, Some, get_or, length, subst, arith, inl, inr}
use Rattle.std.proofs.lemmas.{Bool.cases_lt, List.get_or_past}
use Rattle.std.specs.FinMap as maps
use Rattle.ids.proofs.IdLemmas.BySlot.{all_noted}
use Rattle.ids.proofs.map.Ids.put_by_slot.Goals as goal

pub returns : goal.returns
returns c =
    let i = c.self.inside in
    let items = c.note_far.new.by_slot.items in
    let fits = λ (s : ℕ). elim (cases_lt s (length items)) as (λ _. get_or items s 0 < 2 ^ 64) [
      | inl low ↦ c.type_inv.by_slot s 0 low
      | inr past ↦ let none = get_or_past items s 0 past in omega arith
    ] in
    subst (λ m. (k : ℕ) → (slot : ℕ) → maps.get m k ≡ Some slot → maps.get m (get_or items slot 0) ≡ Some slot) c.self.view_is
    (all_noted i.directory i.pages i.far c.self.invariant.once c.note_paged.new.by_slot.items items fits c.in_ok-note_paged.ensures c.in_ok-note_far.ensures.noted c.in_ok-note_far.ensures.others)
