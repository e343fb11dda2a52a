-- The clauses in slots, as a finite map.
use Rattle.clause_memory.specs.Code.Slots.{IsSlots, held_from, held_in, slot_len, slot_literals}
use Rattle.{clause_memory.specs.Memory.literals_in, cnf_base.proofs.MapLemmas.get_remove}
use Rattle.cnf_base.proofs.MapLemmas.{insert_here, insert_other, inserted_is, same_maps, sum_empty}
use Rattle.{cnf_base.{proofs.MapLemmas.sum_insert, specs.Literals.Clause}, slab.specs.Slab.Slab}
use Rattle.{slab.specs.Slab.Updates, smallvec.specs.SmallVec.SmallVec, std.proofs.Common.List}
use Rattle.std.proofs.Common.{None, Option, Some, [], arith, get_or, is_some, length, nat_cmp}
use Rattle.std.proofs.Common.{option_map, refl, suc, sym, true, zero, ℕ, ◌+◌, ◌-◌, ◌<◌, ◌∷◌, ◌≡◌}
use Rattle.std.{proofs.{Common.◌≤◌, lemmas.List.Sums.sum_by-cons}, specs.Cmp.nat_cmp_total}
use Rattle.std.specs.FinMap as maps

-- the clause of a slot
abbrev pub items_of : Option (SmallVec ℕ) → Option Clause
items_of slot = option_map (λ v. v.items) slot

-- ---- What each slot has

low_from : (slots : List (Option (SmallVec ℕ))) (n q : ℕ) → q < n
    → maps.get (held_from n slots) q ≡ None
low_from [] n q low = maps.get-empty nat_cmp q
low_from (slot ∷ rest) n q low = grind (arith, insert_other, low_from rest (n + 1) q)

at_from : (slots : List (Option (SmallVec ℕ))) (n k q : ℕ) → q ≡ n + k
    → maps.get (held_from n slots) q ≡ items_of (get_or slots k None)
at_from [] n k q e = maps.get-empty nat_cmp q
at_from (slot ∷ rest) n zero q e = grind (arith, insert_here, low_from)
at_from (slot ∷ rest) n (suc k) q e = grind (arith, insert_other, at_from rest (n + 1) k q)

pub held_at : (slots : List (Option (SmallVec ℕ))) (s : ℕ)
    → maps.get (held_in slots) s ≡ items_of (get_or slots s None)
unfolding held_in
held_at slots s = at_from slots 0 s s (omega arith)

-- ---- How many there are

few_from : (slots : List (Option (SmallVec ℕ))) (n end : ℕ)
    → ((k : ℕ) → is_some (get_or slots k None) ≡ true → n + k < end)
    → maps.len (held_from n slots) ≤ end - n
few_from [] n end below = grind (arith, maps.len-empty nat_cmp Clause)
few_from (slot ∷ rest) n end below =
    let few = few_from rest (n + 1) end (λ k some. grind (arith, below (suc k))) in
    grind (arith, below 0, maps.len-insert nat_cmp_total (held_from (n + 1) rest) n)

pub few_held : (slots : List (Option (SmallVec ℕ)))
    → ((s : ℕ) → is_some (get_or slots s None) ≡ true → s < 4294967295)
    → maps.len (held_in slots) ≤ 4294967295
unfolding held_in
few_held slots low =
    let few = few_from slots 0 4294967295 (λ k some. let l = low k some in omega arith) in omega arith

-- ---- How many literals they have

kept_from : (slots : List (Option (SmallVec ℕ))) (n : ℕ) → slot_literals slots ≡ literals_in (held_from n slots)
unfolding slot_literals
kept_from [] n = sym (sum_empty length)
kept_from (None ∷ rest) n = grind (arith, kept_from rest (n + 1))
kept_from (Some v ∷ rest) n =
    grind (arith, sum_by-cons slot_len (Some v) rest, kept_from rest (n + 1), sum_insert length (held_from (n + 1) rest) n v.items, low_from rest (n + 1) n)

pub slots_stored : (slots : List (Option (SmallVec ℕ)))
    → slot_literals slots ≡ literals_in (held_in slots)
unfolding held_in
slots_stored slots = kept_from slots 0

-- ---- Changes

pub held_with : (old new : Slab (SmallVec ℕ)) (slot : ℕ) (v : SmallVec ℕ)
    → Updates old new slot (Some v)
    → held_in new.slots ≡ maps.insert (held_in old.slots) slot v.items
held_with old new slot v updates =
    grind (arith, inserted_is (held_in old.slots) (held_in new.slots) slot v.items, held_at)

pub held_without : (old new : Slab (SmallVec ℕ)) (slot : ℕ) → Updates old new slot None
    → held_in new.slots ≡ maps.remove (held_in old.slots) slot
held_without old new slot updates = grind (arith, same_maps, held_at, get_remove)

-- the slots are still those below the end, where one has a clause more
pub slots_with : (old new : Slab (SmallVec ℕ)) (slot end later : ℕ) (v : SmallVec ℕ)
    → Updates old new slot (Some v) → IsSlots old.slots end → slot < later → end ≤ later
    → later ≤ 4294967295 → IsSlots new.slots later
slots_with old new slot end later v updates is low more few = grind arith

-- where there are no slots
pub none_held : (held_in [] ≡ maps.empty) × (slot_literals [] ≡ 0)
unfolding held_in slot_literals
none_held = (refl, refl)

-- what functions of the memory cite
pub ruleset held_facts = (held_at, few_held, held_with, held_without, none_held)

pub ruleset slot_facts = (held_facts, slots_stored, slots_with)
