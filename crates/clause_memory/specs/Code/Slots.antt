-- The clauses in slots.
use Rattle.std.specs.Coded.{Coded, code_by, coded×, coded_ℕ, coded_list}
use Rattle.std.specs.FinMap as maps
use Rattle.std.specs.FinMap.{FinMap}
use Rattle.std.specs.Ordering.{nat_cmp}
use Rattle.std.specs.Prelude.{ℕ, ◌+◌, ◌<◌, ◌≤◌, List, [], ◌∷◌, Option, Some, None, IsSome, length}
use Rattle.std.specs.Prelude.{refl, slice_index_or, sum_by}
use Rattle.smallvec.specs.SmallVec.{SmallVec}
use Rattle.cnf_base.specs.Literals.{Clause}
use Rattle.clause_memory.specs.Memory.{MemoryState}

-- a memory is kept as the tuple of its fields
abbrev pub slots_code : Coded MemoryState
slots_code =
    code_by (FinMap nat_cmp Clause × (ℕ × ℕ))
    (coded× (maps.code coded_ℕ (coded_list coded_ℕ)) (coded× coded_ℕ coded_ℕ))
    (λ s. (s.live, (s.slots, s.stored)))
    (λ p. record { live = p.0; slots = p.1.0; stored = p.1.1 }) (λ _. refl)

-- the clauses of the slots from this one on
abbrev pub held_from : ℕ → List (Option (SmallVec ℕ)) → FinMap nat_cmp Clause
held_from n [] = maps.empty
held_from n (None ∷ rest) = held_from (n + 1) rest
held_from n (Some clause ∷ rest) = maps.insert (held_from (n + 1) rest) n clause.items

-- each clause, by its slot
unfoldable pub held_in : List (Option (SmallVec ℕ)) → FinMap nat_cmp Clause
held_in slots = held_from 0 slots

-- how many literals a slot has
abbrev pub slot_len : Option (SmallVec ℕ) → ℕ
slot_len None = 0
slot_len (Some clause) = length clause.items

-- how many literals the slots have
unfoldable pub slot_literals : List (Option (SmallVec ℕ)) → ℕ
slot_literals slots = sum_by slot_len slots

-- what a memory with these slots is seen as, of which none from the end on has been used
abbrev pub slots_seen : List (Option (SmallVec ℕ)) → ℕ → MemoryState
slots_seen slots end =
    record { live = held_in slots; slots = end; stored = slot_literals slots }

-- the slots with a clause have numbers below the end, and these have four bytes
pub record IsSlots (slots : List (Option (SmallVec ℕ))) (end : ℕ) : Type 0 where
  pub below : (s : ℕ) → IsSome (slice_index_or slots s None) → s < end
  pub few : end ≤ 4294967295
