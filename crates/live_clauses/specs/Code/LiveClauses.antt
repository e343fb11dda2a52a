-- The live clauses as the code holds them: a slot for each identifier, and a clause in each slot.
use Rattle.std.specs.Coded.{Coded, code_by, coded×, coded_ℕ, coded_list}
use Rattle.std.specs.FinMap as maps
use Rattle.std.specs.FinMap.{FinMap}
use Rattle.std.specs.Option.{unwrap_or}
use Rattle.std.specs.Ordering.{nat_cmp}
use Rattle.std.specs.Prelude.{ℕ, [], option_map, map, refl, ◌≡◌, Some, IsSome, ◌<◌, None, true}
use Rattle.std.specs.Prelude.{List, slice_index}
use Rattle.cnf_base.specs.Literals.{Clause}
use Rattle.live_clauses.specs.LiveClauses.{LiveClausesState}
use Rattle.live_clauses.specs.declared.owners.Owners.{Owners}
use Rattle.theory.specs.Propagation.{Live}
use Rattle.theory.specs.Sizes.{total}

abbrev pub clause_at : FinMap nat_cmp Clause → ℕ → Clause
clause_at store slot = unwrap_or (maps.get store slot) []

-- the clause in the slot of an identifier
abbrev pub held_at : FinMap nat_cmp ℕ → FinMap nat_cmp Clause → Live
held_at ids store id = option_map (clause_at store) (maps.get ids id)

-- the clauses, each at its identifier
abbrev pub joined : FinMap nat_cmp ℕ → FinMap nat_cmp Clause → FinMap nat_cmp Clause
joined ids store = maps.from_entries (map (λ e. (e.0, clause_at store e.1)) (maps.entries ids))

abbrev pub live_clauses_code : Coded LiveClausesState
live_clauses_code =
    code_by (FinMap nat_cmp Clause × (ℕ × ℕ))
    (coded× (maps.code coded_ℕ (coded_list coded_ℕ)) (coded× coded_ℕ coded_ℕ))
    (λ s. (s.live, (s.top, s.stored))) (λ p. record { live = p.0; top = p.1.0; stored = p.1.1 })
    (λ _. refl)

-- each identifier has a slot of its own, and those are the slots with a clause in them
pub record IsPaired (ids : FinMap nat_cmp ℕ) (store : FinMap nat_cmp Clause) : Type 0 where
  pub filled : (k slot : ℕ) → maps.get ids k ≡ Some slot → IsSome (maps.get store slot)
  pub own : (j k slot : ℕ) → maps.get ids j ≡ Some slot → maps.get ids k ≡ Some slot → j ≡ k
  pub used : (slot : ℕ) → IsSome (maps.get store slot) → (k : ℕ) × (maps.get ids k ≡ Some slot)

-- the list has each identifier at its slot
abbrev pub AreNoted : List ℕ → FinMap nat_cmp ℕ → Type 0
AreNoted by_slot ids = (k slot : ℕ) → maps.get ids k ≡ Some slot → slice_index by_slot slot ≡ k

-- the identifier noted for the slot, 0 where there is none
abbrev pub owner_at : Owners → ℕ → ℕ
owner_at owners slot = slice_index owners.by_slot.items slot

-- where they are kept, each identifier is noted for its slot; each field has to be named here
abbrev pub AreOwners : Owners → FinMap nat_cmp ℕ → Type 0
AreOwners owners ids =
    let record { by_slot = by_slot; is_kept = is_kept } = owners in
    is_kept ≡ true → AreNoted by_slot.items ids

-- the sum is that of the sizes, and no identifier is past the greatest
pub record IsTally (live : Live) (top sum : ℕ) : Type 0 where
  pub sum_is : sum ≡ total (record { live = live; top = top })
  pub none_at_zero : live 0 ≡ None
  pub none_above : (k : ℕ) → top < k → live k ≡ None
