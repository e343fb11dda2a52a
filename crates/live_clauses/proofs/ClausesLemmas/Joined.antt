-- Identifiers, slots and clauses as one finite map.
use Rattle.{clause_db.specs.Store.{copies_with, literals_in}, std.specs.Option.IsSome}
use Rattle.cnf_base.proofs.MapLemmas.{insert_here, insert_other, inserted_is, remove_here}
use Rattle.cnf_base.proofs.MapLemmas.{remove_other, removed_back, same_maps, sum_insert, sum_remove}
use Rattle.cnf_base.proofs.SetLemmas.{has_head, has_tail}
use Rattle.{cnf_base.specs.Literals.{Clause, Literal, has, same_clause}, std.specs.List.IsDistinct}
use Rattle.live_clauses.proofs.ClausesLemmas.Distinct.{distinct_head, distinct_tail}
use Rattle.live_clauses.specs.Code.LiveClauses.{AreOwners, IsPaired, IsTally, clause_at, held_at}
use Rattle.live_clauses.specs.{Code.LiveClauses.joined, declared.owners.Owners.Owners}
use Rattle.live_clauses.specs.LiveClauses.{AllHold, Holds, LiveClausesState}
use Rattle.std.proofs.Common.{List, None, Option, Some, [], arith, length, map, nat_cmp, nat_eq}
use Rattle.std.proofs.Common.{option_map, refl, rules, sym, true, ℕ, ◌<◌, ◌∷◌, ◌≡◌, ◌≢◌, ◌≤◌, ◌⊎◌}
use Rattle.std.specs.{Bool.IsTrue, FinMap.{FinMap, find, get-empty, get-entries, get-from_entries}}
use Rattle.{std.specs.Cmp.nat_cmp_total, theory.proofs.LratLemmas.LiveSets.SameClauses-refl}
use Rattle.theory.proofs.LratLemmas.Sums.{sum_with, sum_without, with_here, with_other}
use Rattle.theory.specs.{Lrat.{SameAt, SameClauses, with_clause, without_id}, Propagation.Live}
use Rattle.std.specs.FinMap as maps

-- ---- The map that is seen

find_joined : (store : FinMap nat_cmp Clause) (es : List (ℕ × ℕ)) (q : ℕ) → find nat_cmp q (map (λ e. (e.0, clause_at store e.1)) es) ≡ option_map (clause_at store) (find nat_cmp q es)
find_joined store [] q = refl
find_joined store (e ∷ es) q = search (rules, arith, nat_cmp, option_map, (find_joined store es q))

pub joined_is : (ids : FinMap nat_cmp ℕ) (store : FinMap nat_cmp Clause) (k : ℕ) → maps.get (joined ids store) k ≡ held_at ids store k
joined_is ids store k =
    search (rules, arith, get-from_entries, nat_cmp_total, find_joined, get-entries)

-- ---- A clause that is added

module _ (ids : FinMap nat_cmp ℕ) (store after : FinMap nat_cmp Clause) (id slot : ℕ) (paired : IsPaired ids store) (free : maps.get store slot ≡ None)
    (others : (k : ℕ) → k ≢ slot → maps.get after k ≡ maps.get store k) where
  -- what is bound has another slot
  pub old_slot : (k s : ℕ) → maps.get ids k ≡ Some s → s ≢ slot
  old_slot k s at e = search rules

  -- a slot that was filled and freed again
  pub freed_is : maps.remove after slot ≡ store
  freed_is = removed_back store after slot free others

  module _ (c : Clause) (stored : maps.get after slot ≡ Some c) (after_ids : FinMap nat_cmp ℕ) (bound : after_ids ≡ maps.insert ids id slot) where
    pub held_with : (k : ℕ) → held_at after_ids after k ≡ with_clause (held_at ids store) id c k
    held_with k = search (rules, arith, insert_here, insert_other)

    -- an identifier that is bound now, and its slot
    slot_cases : (k s : ℕ) → maps.get after_ids k ≡ Some s → ((k ≡ id) × (s ≡ slot)) ⊎ (maps.get ids k ≡ Some s)
    slot_cases k s at = search (rules, arith, insert_here, insert_other)

    pub paired_with : maps.get ids id ≡ None → IsPaired after_ids after
    paired_with unbound =
        let here : maps.get after_ids id ≡ Some slot = search (rules, insert_here) in
        grind (arith, slot_cases, old_slot, insert_other)

    filled_is : after ≡ maps.insert store slot c
    filled_is = inserted_is store after slot c stored others

    pub tally_with : (top : ℕ) → IsTally (held_at ids store) top (literals_in store) → top < id → IsTally (held_at after_ids after) id (literals_in after)
    tally_with top tally above =
        let now = sum_with (held_at ids store) (held_at after_ids after) top id c above tally.none_above held_with in
        search (rules, arith, held_with, with_other, filled_is, sum_insert)

-- an identifier past the greatest is not bound
pub not_bound : (ids : FinMap nat_cmp ℕ) (store : FinMap nat_cmp Clause) (k : ℕ) → held_at ids store k ≡ None → maps.get ids k ≡ None
not_bound ids store k h = search rules

-- ---- A clause that is taken off

module _ (ids after_ids : FinMap nat_cmp ℕ) (store : FinMap nat_cmp Clause) (id : ℕ) (paired : IsPaired ids store) (unbound : after_ids ≡ maps.remove ids id) where
  -- an identifier that is still bound was bound, and is another one
  still_bound : (k s : ℕ) → maps.get after_ids k ≡ Some s → (k ≢ id) × (maps.get ids k ≡ Some s)
  still_bound k s at = search (rules, remove_here, remove_other)

  pub owners_without : (owners : Owners) → AreOwners owners ids → AreOwners owners after_ids
  owners_without owners are = search (rules, still_bound)

  -- where it was not bound
  module _ (none : maps.get ids id ≡ None) where
    pub none_held : (k : ℕ) → held_at after_ids store k ≡ held_at ids store k
    none_held k = search (rules, arith, remove_here, remove_other)

    pub none_without : (k : ℕ) → held_at after_ids store k ≡ without_id (held_at ids store) id k
    none_without k = search (rules, arith, remove_here, remove_other)

    pub none_paired : IsPaired after_ids store
    none_paired = search (rules, arith, remove_here, remove_other)

  module _ (slot : ℕ) (bound : maps.get ids id ≡ Some slot) (after : FinMap nat_cmp Clause) (freed : after ≡ maps.remove store slot) where
    pub held_without : (k : ℕ) → held_at after_ids after k ≡ without_id (held_at ids store) id k
    held_without k = search (rules, arith, remove_here, remove_other)

    pub paired_without : IsPaired after_ids after
    paired_without = search (rules, arith, remove_here, remove_other)

    module _ (c : Clause) (at : maps.get store slot ≡ Some c) (top : ℕ) (tally : IsTally (held_at ids store) top (literals_in store)) where
      pub tally_without : IsTally (held_at after_ids after) top (literals_in after)
      tally_without =
          let now = sum_without (held_at ids store) (held_at after_ids after) top id tally.none_at_zero tally.none_above held_without c (search rules) in
          search (rules, arith, held_without, sum_remove)

-- ---- What is seen of one change

same_changed : (live : Live) (id : ℕ) (c lits : Clause) → same_clause c lits ≡ true → (k : ℕ) → SameAt (with_clause live id c k) (with_clause live id lits k)
same_changed live id c lits same k = search (rules, with_here, with_other, (SameClauses-refl live))

module _ (ids after_ids : FinMap nat_cmp ℕ) (store after : FinMap nat_cmp Clause) (id slot : ℕ) (lits : Clause) (state : LiveClausesState) (view : joined ids store ≡ state.live) (paired : IsPaired ids store) (free : maps.get store slot ≡ None)
    (others : (k : ℕ) → k ≢ slot → maps.get after k ≡ maps.get store k) (stored : (c : Clause) × (maps.get after slot ≡ Some c) × IsTrue (same_clause c lits)) (bound : after_ids ≡ maps.insert ids id slot) where
  pub add_live : SameClauses (maps.get (joined after_ids after)) (with_clause (maps.get state.live) id lits)
  add_live =
      let same = same_changed (held_at ids store) id stored.0 lits stored.2 in
      grind (arith, joined_is, held_with)

  pub add_invariant : (top : ℕ) → IsTally (held_at ids store) top (literals_in store) → top < id → IsPaired after_ids after × IsTally (held_at after_ids after) id (literals_in after)
  add_invariant top tally above =
      let w = stored in
      (grind (arith, paired_with, not_bound), tally_with ids store after id slot paired free others w.0 w.1 after_ids bound top tally above)

-- ---- What is kept by a removal

module _ (ids after_ids : FinMap nat_cmp ℕ) (store : FinMap nat_cmp Clause) (id : ℕ) (paired : IsPaired ids store) (unbound : after_ids ≡ maps.remove ids id) where
  pub absent_invariant : None ≡ maps.get ids id → (top : ℕ) → IsTally (held_at ids store) top (literals_in store) → IsPaired after_ids store × IsTally (held_at after_ids store) top (literals_in store)
  absent_invariant none top tally =
      let held = none_held ids after_ids store id paired unbound (sym none) in
      grind (arith, none_paired)

  pub removed_invariant : (slot : ℕ) → Some slot ≡ maps.get ids id → (after : FinMap nat_cmp Clause) → after ≡ maps.remove store slot → (top : ℕ) → IsTally (held_at ids store) top (literals_in store) →
      IsPaired after_ids after × IsTally (held_at after_ids after) top (literals_in after)
  removed_invariant slot bound after freed top tally =
      let w = clause_of (maps.get store slot) (paired.filled id slot (sym bound)) in
      (grind (arith, paired_without), tally_without ids after_ids store id paired unbound slot (sym bound) after freed w.0 w.1 top tally)
    where
      clause_of : (o : Option Clause) → IsSome o → (c : Clause) × (o ≡ Some c)
      clause_of o h = search rules

-- ---- How many clauses hold a literal

-- each of the identifiers has a slot, with a clause that holds the literal
abbrev SlotsHold : FinMap nat_cmp ℕ → FinMap nat_cmp Clause → Literal → List ℕ → Type 0
SlotsHold ids store l ks = (k : ℕ) → has ks k ≡ true → (slot : ℕ) × (maps.get ids k ≡ Some slot) × (c : Clause) × (maps.get store slot ≡ Some c) × (has c l ≡ true)

-- different identifiers have different slots, so there are no more of them than clauses that hold the literal
slots_counted : (ids : FinMap nat_cmp ℕ) (l : Literal) → ((j k slot : ℕ) → maps.get ids j ≡ Some slot → maps.get ids k ≡ Some slot → j ≡ k) →
    (ks : List ℕ) (store : FinMap nat_cmp Clause) → IsDistinct nat_eq ks → SlotsHold ids store l ks → length ks ≤ copies_with store l
slots_counted ids l own [] store different hold = omega arith
slots_counted ids l own (k ∷ ks) store different hold =
    let here = hold k (has_head k ks) in
    let rest = slots_counted ids l own ks (maps.remove store here.0) (distinct_tail k ks different) in
    search (rules, arith, sum_remove, has_tail, distinct_head, remove_other)

-- the slot of an identifier whose clause holds the literal, and the clause in it
pub holder : (ids : FinMap nat_cmp ℕ) (store : FinMap nat_cmp Clause) (state : LiveClausesState) → joined ids store ≡ state.live → IsPaired ids store → (l : Literal) (k : ℕ) → Holds (maps.get state.live) l k →
    (slot : ℕ) × (maps.get ids k ≡ Some slot) × (c : Clause) × (maps.get store slot ≡ Some c) × (has c l ≡ true)
holder ids store state view paired l k h = search (rules, arith, joined_is)

pub holding_counts : (ids : FinMap nat_cmp ℕ) (store : FinMap nat_cmp Clause) (state : LiveClausesState) → joined ids store ≡ state.live → IsPaired ids store → (l : Literal) (count : ℕ) → count ≡ copies_with store l →
    (ks : List ℕ) → AllHold (maps.get state.live) l ks → length ks ≤ count
holding_counts ids store state view paired l count count_is ks hold =
    rw count_is (slots_counted _ l paired.own _ _ hold.different (λ k member. search (rules, holder)))

-- ---- At the start

pub start_view : (ids : FinMap nat_cmp ℕ) (store : FinMap nat_cmp Clause) → ids ≡ maps.empty → joined ids store ≡ maps.empty
start_view ids store no_ids = search (rules, same_maps, joined_is, get-empty)
