-- Identifiers by the slots that they are bound to.
use Rattle.std.proofs.Common.{◌≡◌, ◌≢◌, ℕ, ◌+◌, ◌-◌, ◌<◌, ◌≤◌, ◌^◌, cond, eqb, eq-eqb, ne_eqb, List}
use Rattle.std.proofs.Common.{get_or, sym, ap, ◌∙◌, arith, inl, inr, Some}
use Rattle.std.specs.BTreeMap.{BTreeMap}
use Rattle.std.proofs.lemmas.{Bool.cases_eq, Bool.cases_lt, Option.none-some, Option.same_Some}
use Rattle.std.specs.FinMap as maps
use Rattle.ids.specs.declared.{directory.Directory.Directory, pages.Pages.Pages}
use Rattle.ids.specs.Code.{Far.far_at, Ids.entry_at, Ids.entry_for, Ids.as_map, Ids.slot_from}
use Rattle.ids.proofs.IdLemmas.Map.{get-as_map, get-past, entry_for-else, entry_for-here, some_slot}

-- one more is noted
module _ (entry : ℕ → ℕ) (before after : List ℕ) (id : ℕ) (some : entry id ≢ 0) (is : (s : ℕ) → get_or after s 0 ≡ cond (eqb s (entry id - 1)) id (get_or before s 0)) where
  at_slot : (s : ℕ) → s ≡ entry id - 1 → get_or after s 0 ≡ id
  at_slot s same = is s ∙ ap (λ b. cond b id (get_or before s 0)) (eq-eqb s (entry id - 1) same)

  elsewhere : (s : ℕ) → s ≢ entry id - 1 → get_or after s 0 ≡ get_or before s 0
  elsewhere s apart = is s ∙ ap (λ b. cond b id (get_or before s 0)) (ne_eqb s (entry id - 1) apart)

  pub noted_stays : (k : ℕ) → entry k ≢ 0 → entry (get_or before (entry k - 1) 0) ≡ entry k → entry (get_or after (entry k - 1) 0) ≡ entry k
  noted_stays k there noted = grind (arith, cases_eq, at_slot, elsewhere)

  pub noted_here : (k : ℕ) → k ≡ id → entry (get_or after (entry k - 1) 0) ≡ entry k
  noted_here k here = ap entry (at_slot (entry k - 1) (ap (λ n. entry n - 1) here)) ∙ sym (ap entry here)

  pub others_stay : (s : ℕ) → entry (get_or after s 0) ≢ s + 1 → get_or after s 0 ≡ get_or before s 0
  others_stay s other = grind (arith, cases_eq, at_slot, elsewhere)

  -- in a walk that passes over what has none
  pub noted_next : (from : ℕ) → ((k : ℕ) → from ≤ k → k < id → entry k ≡ 0) → ((k : ℕ) → k < from → entry k ≢ 0 → entry (get_or before (entry k - 1) 0) ≡ entry k) → (k : ℕ) →
      k < id + 1 → entry k ≢ 0 → entry (get_or after (entry k - 1) 0) ≡ entry k
  noted_next from none noted k low there =
      grind (arith, cases_eq, noted_here, cases_lt, noted_stays)

-- ---- Those in pages, and then the far ones

module _ (directory : Directory) (pages : Pages) (far : BTreeMap ℕ ℕ) (once : (id : ℕ) → entry_at directory pages id ≢ 0 → far_at far id ≡ 0) (paged after : List ℕ) (fits : (s : ℕ) → get_or after s 0 < 2 ^ 64)
    (in_pages : (k : ℕ) → entry_at directory pages k ≢ 0 → entry_at directory pages (get_or paged (entry_at directory pages k - 1) 0) ≡ entry_at directory pages k)
    (in_tree : (k : ℕ) → k < 2 ^ 64 → far_at far k ≢ 0 → far_at far (get_or after (far_at far k - 1) 0) ≡ far_at far k) (others : (s : ℕ) → far_at far (get_or after s 0) ≢ s + 1 → get_or after s 0 ≡ get_or paged s 0) where
  far_one : (id : ℕ) → far_at far id ≢ 0 → entry_for directory pages far id ≡ far_at far id
  far_one id some = elim (cases_eq (entry_at directory pages id) 0) [
    | inl none ↦ entry_for-else directory pages far id none
    | inr there ↦ absurd (some (once id there))
  ]

  entry_noted : (k s : ℕ) → k < 2 ^ 64 → entry_for directory pages far k ≡ s + 1 → entry_for directory pages far (get_or after s 0) ≡ s + 1
  entry_noted k s low at = elim (cases_eq (far_at far (get_or after s 0)) (s + 1)) [
    | inl is ↦ far_one (get_or after s 0) (λ e. absurd (let wrong : ⊥ = omega (arith, is, e) in wrong)) ∙ is
    | inr not_far ↦ elim (cases_eq (entry_at directory pages k) 0) [
      | inl none ↦
          let far_is = sym (entry_for-else directory pages far k none) ∙ at in
          let slot : far_at far k - 1 ≡ s = omega (arith, far_is) in
          absurd (not_far (sym (ap (λ n. far_at far (get_or after n 0)) slot) ∙ in_tree k low (λ e. absurd (let wrong : ⊥ = omega (arith, far_is, e) in wrong)) ∙ far_is))
      | inr there ↦
          let entry_is = sym (entry_for-here directory pages far k there) ∙ at in
          let slot : entry_at directory pages k - 1 ≡ s = omega (arith, entry_is) in
          grind (
            arith,
            ap (entry_at directory pages) (others s not_far) ∙ sym (ap (λ n. entry_at directory pages (get_or paged n 0)) slot) ∙ in_pages k there ∙ entry_is,
          )
    ]
  ]

  pub all_noted : (k slot : ℕ) → maps.get (as_map (entry_for directory pages far)) k ≡ Some slot → maps.get (as_map (entry_for directory pages far)) (get_or after slot 0) ≡ Some slot
  all_noted k slot at = elim (cases_lt k (2 ^ 64)) [
    | inl low ↦
        let entry = entry_for directory pages far in
        let is = entry_noted k slot low (entry_of (entry k) slot (sym (get-as_map entry k low) ∙ at)) in
        get-as_map entry (get_or after slot 0) (fits slot) ∙ some_slot entry (get_or after slot 0) slot is
    | inr past ↦ absurd (none-some slot (sym (get-past (entry_for directory pages far) k past) ∙ at))
  ]
    where
      entry_of : (n slot : ℕ) → slot_from n ≡ Some slot → n ≡ slot + 1
      entry_of n slot from = grind (arith, cases_eq, none-some, same_Some, ne_eqb)
