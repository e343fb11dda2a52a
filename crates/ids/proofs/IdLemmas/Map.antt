-- Identifiers by pages, and as a finite map.
use Rattle.cnf_base.proofs.MapLemmas.{get_insert, get_remove, insert_here, insert_other, same_maps}
use Rattle.ids.specs.Code.{Far.far_at, Ids.{IsOwned, IsPaged, as_map, entry_at, entry_for}}
use Rattle.ids.specs.Code.Ids.{entry_in, map_below, page_at, place, slot_from, with_slot}
use Rattle.ids.specs.declared.{directory.Directory.Directory, pages.Pages.Pages}
use Rattle.std.proofs.Common.{IfNone, List, None, Option, Some, ap, arith, cond, eq-eqb, eqb}
use Rattle.std.proofs.Common.{get_or, get_or-set_other, get_or-set_same, inl, inr, length, nat_cmp}
use Rattle.std.proofs.Common.{ne_eqb, refl, set, subst, suc, sym, zero, ℕ, ◌+◌, ◌/◌, ◌<◌, ◌^◌, ◌∙◌}
use Rattle.std.proofs.{Common.{◌≡◌, ◌≢◌, ◌≤◌}, lemmas.Bool.{cases_eq, cases_lt, Decides.nat_tests}}
use Rattle.std.{proofs.lemmas.{List.get_or_past, Option.none-some}, specs.BTreeMap.BTreeMap}
use Rattle.std.specs.{BTreeMap.is_at, FinMap.FinMap, Map.lookup}
use Rattle.std.specs.FinMap as maps

-- ---- As a finite map

with_other : (m : FinMap nat_cmp ℕ) (id : ℕ) (o : Option ℕ) (q : ℕ) → q ≢ id → maps.get (with_slot m id o) q ≡ maps.get m q
with_other m id None q apart = refl
with_other m id (Some s) q apart = insert_other m id q s apart

with_same : (m : FinMap nat_cmp ℕ) (id : ℕ) (o : Option ℕ) → maps.get m id ≡ None → maps.get (with_slot m id o) id ≡ o
with_same m id None none = none
with_same m id (Some s) none = insert_here m id id s refl

below_none : (n : ℕ) (slot : ℕ → Option ℕ) (q : ℕ) → n ≤ q → maps.get (map_below n slot) q ≡ None
unfolding map_below
below_none zero slot q past = maps.get-empty nat_cmp q
below_none (suc n) slot q past = with_other (map_below n slot) n (slot n) q (λ e. absurd (let wrong : ⊥ = omega arith in wrong)) ∙ below_none n slot q (omega arith)

below_at : (n : ℕ) (slot : ℕ → Option ℕ) (q : ℕ) → q < n → maps.get (map_below n slot) q ≡ slot q
unfolding map_below
below_at zero slot q low = absurd (let wrong : ⊥ = omega arith in wrong)
below_at (suc n) slot q low = elim (cases_eq q n) [
  | inl is ↦ subst (λ k. maps.get (with_slot (map_below n slot) n (slot n)) k ≡ slot k) (sym is) (with_same (map_below n slot) n (slot n) (below_none n slot n (omega arith)))
  | inr apart ↦ with_other (map_below n slot) n (slot n) q apart ∙ below_at n slot q (omega arith)
]

module _ (entry : ℕ → ℕ) where
  pub get-as_map : (q : ℕ) → q < 2 ^ 64 → maps.get (as_map entry) q ≡ slot_from (entry q)
  unfolding as_map
  get-as_map q low = below_at (2 ^ 64) (λ id. slot_from (entry id)) q low

  pub get-past : (q : ℕ) → 2 ^ 64 ≤ q → maps.get (as_map entry) q ≡ None
  unfolding as_map
  get-past q past = below_none (2 ^ 64) (λ id. slot_from (entry id)) q past

  pub get-unbound : (q : ℕ) → entry q ≡ 0 → maps.get (as_map entry) q ≡ None
  get-unbound q none = grind (arith, cases_lt, get-as_map, get-past)

  pub some_slot : (q slot : ℕ) → entry q ≡ slot + 1 → slot_from (entry q) ≡ Some slot
  some_slot q slot is = grind (arith, ne_eqb)

  -- what has no slot has no entry
  pub unbound_entry : (q : ℕ) → q < 2 ^ 64 → maps.get (as_map entry) q ≡ None → entry q ≡ 0
  unbound_entry q low none = grind (arith, cases_eq, none-some, get-as_map, ne_eqb)

  pub as_map-empty : ((k : ℕ) → entry k ≡ 0) → as_map entry ≡ maps.empty
  as_map-empty none = same_maps _ _ (λ q. get-unbound q (none q) ∙ sym (maps.get-empty nat_cmp q))

same_at : (entry after : ℕ → ℕ) (q : ℕ) → after q ≡ entry q → maps.get (as_map after) q ≡ maps.get (as_map entry) q
same_at entry after q same = grind (arith, cases_lt, get-as_map, get-past)

-- a change of one entry
module _ (entry after : ℕ → ℕ) (id value : ℕ) (fits : id < 2 ^ 64) (changes : (k : ℕ) → after k ≡ cond (eqb k id) value (entry k)) where
  changed : (q : ℕ) → maps.get (as_map after) q ≡ cond (eqb q id) (slot_from value) (maps.get (as_map entry) q)
  changed q = grind (arith, cases_eq, get-as_map, eq-eqb, same_at, ne_eqb)

  pub as_map-insert : (slot : ℕ) → value ≡ slot + 1 → as_map after ≡ maps.insert (as_map entry) id slot
  as_map-insert slot is = grind (arith, same_maps, changed, some_slot, get_insert)

  pub as_map-remove : value ≡ 0 → as_map after ≡ maps.remove (as_map entry) id
  as_map-remove is = grind (arith, same_maps, changed, get_remove)

-- ---- Pages of page numbers

module _ (page : ℕ → ℕ) (numbers : List ℕ) (owned : IsOwned page numbers) where
  pub page_within : (number : ℕ) → page number ≢ 0 → page number ≤ length numbers
  page_within number some = grind (arith, cases_lt, get_or_past)

  -- an entry is written
  pub entry_in-set : (entries : List ℕ) (id entry : ℕ) → page (id / 1024) ≢ 0 → place (page (id / 1024)) id < length entries → (k : ℕ) →
      entry_in page (set entries (place (page (id / 1024)) id) entry) k ≡ cond (eqb k id) entry (entry_in page entries k)
  entry_in-set entries id entry some within k =
      grind (arith, cases_eq, ne_eqb, get_or-set_same, eq-eqb, get_or-set_other)

pub has_no_page : (page : ℕ → ℕ) (entries : List ℕ) (id : ℕ) → page (id / 1024) ≡ 0 → entry_in page entries id ≡ 0
has_no_page page entries id none = ap (λ b. cond b 0 (get_or entries (place (page (id / 1024)) id) 0)) (eq-eqb (page (id / 1024)) 0 none)

-- ---- The identifiers of a directory and its pages

module _ (directory : Directory) (pages : Pages) (paged : IsPaged directory pages) where
  pub entry_at-written : (after : Pages) (id entry : ℕ) → page_at directory (id / 1024) ≢ 0 → after.entries.items ≡ set pages.entries.items (place (page_at directory (id / 1024)) id) entry → (k : ℕ) →
      entry_at directory after k ≡ cond (eqb k id) entry (entry_at directory pages k)
  entry_at-written after id entry some written k =
      let room = paged.counted.room in
      let low = page_within (page_at directory) pages.numbers.items paged.owned (id / 1024) some in
      let within : place (page_at directory (id / 1024)) id < length pages.entries.items = omega arith in
      ap (λ xs. entry_in (page_at directory) xs k) written
      ∙ entry_in-set (page_at directory) pages.numbers.items paged.owned pages.entries.items id entry some within k

  -- an identifier with an entry has a page
  pub has_page : (id : ℕ) → entry_at directory pages id ≢ 0 → page_at directory (id / 1024) ≢ 0
  has_page id some none = some (has_no_page (page_at directory) pages.entries.items id none)

  pub entry_is : (id : ℕ) → page_at directory (id / 1024) ≢ 0 → entry_at directory pages id ≡ get_or pages.entries.items (place (page_at directory (id / 1024)) id) 0
  entry_is id some = ap (λ b. cond b 0 (get_or pages.entries.items (place (page_at directory (id / 1024)) id) 0)) (ne_eqb (page_at directory (id / 1024)) 0 some)

-- ---- Entries in pages and far ones

pub both_none : (paged far : ℕ) → cond (eqb paged 0) far paged ≡ 0 → (paged ≡ 0) × (far ≡ 0)
both_none paged far none = grind (arith, cases_eq, eq-eqb, ne_eqb)

module _ (directory : Directory) (pages : Pages) (far : BTreeMap ℕ ℕ) where
  -- the far entry counts where there is none in a page
  pub entry_for-else : (id : ℕ) → entry_at directory pages id ≡ 0 → entry_for directory pages far id ≡ far_at far id
  entry_for-else id none = ap (λ e. cond (eqb e 0) (far_at far id) e) none

  pub entry_for-here : (id : ℕ) → entry_at directory pages id ≢ 0 → entry_for directory pages far id ≡ entry_at directory pages id
  entry_for-here id some = ap (λ b. cond b (far_at far id) (entry_at directory pages id)) (ne_eqb (entry_at directory pages id) 0 some)

  module _ (id value : ℕ) where
    -- one in a page is written, and none is far
    pub entry_for-paged : (after : Directory) (pages_after : Pages) → ((k : ℕ) → entry_at after pages_after k ≡ cond (eqb k id) value (entry_at directory pages k)) → far_at far id ≡ 0 → (k : ℕ) →
        entry_for after pages_after far k ≡ cond (eqb k id) value (entry_for directory pages far k)
    entry_for-paged after pages_after changes none k = grind (arith, cases_eq, nat_tests)

    pub once-paged : (after : Directory) (pages_after : Pages) → ((k : ℕ) → entry_at after pages_after k ≡ cond (eqb k id) value (entry_at directory pages k)) → far_at far id ≡ 0 → ((k : ℕ) → entry_at directory pages k ≢ 0 → far_at far k ≡ 0) → (k : ℕ) →
        entry_at after pages_after k ≢ 0 → far_at far k ≡ 0
    once-paged after pages_after changes none once k some = grind (arith, cases_eq, ne_eqb)

    -- a far one is written, where none is in a page
    pub entry_for-far : (far_after : BTreeMap ℕ ℕ) → ((k : ℕ) → far_at far_after k ≡ cond (eqb k id) value (far_at far k)) → entry_at directory pages id ≡ 0 → (k : ℕ) →
        entry_for directory pages far_after k ≡ cond (eqb k id) value (entry_for directory pages far k)
    entry_for-far far_after changes none k = grind (arith, cases_eq, nat_tests)

-- ---- An unbound identifier comes into its page, which was found or made before

module _ (directory : Directory) (pages : Pages) (far : BTreeMap ℕ ℕ) (id : ℕ) (none : entry_for directory pages far id ≡ 0) (wider : Directory) (more : Pages) (paged : IsPaged wider more)
    (same : (k : ℕ) → entry_at wider more k ≡ entry_at directory pages k) (page : ℕ) (its : page_at wider (id / 1024) ≡ page) (some : page ≢ 0) where
  pub page_empty : get_or more.entries.items (place page id) 0 ≡ 0
  page_empty = grind (arith, entry_is, both_none)

  pub page_filled : (after : Pages) (entry : ℕ) → after.entries.items ≡ set more.entries.items (place page id) entry → (k : ℕ) → entry_at wider after k ≡ cond (eqb k id) entry (entry_at directory pages k)
  page_filled after entry written k = grind (arith, entry_at-written)

-- ---- What is said where nothing is found

pub if_none_always : {T : Type 0} (o : Option T) {P : Type 0} → P → IfNone o P
if_none_always None h = h
if_none_always (Some x) h = tt

-- what is said of the slots of identifiers
pub ruleset map_steps = (get-as_map, get-unbound, get-past, if_none_always, cases_lt)

pub ruleset empty_steps = (as_map-empty, entry_for-else, has_no_page, lookup, is_at)
