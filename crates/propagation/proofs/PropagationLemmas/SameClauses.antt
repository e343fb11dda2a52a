-- What holds of live clauses, where a store has the same ones.
use Rattle.{clause_db.specs.Store.copies_with, cnf_base.proofs.MapLemmas.{sum_lighter, weight_at}}
use Rattle.cnf_base.{proofs.SetLemmas.{both_pass, same_back, same_there}, specs.Literals.Clause}
use Rattle.cnf_base.specs.Literals.{Literal, has, same_clause}
use Rattle.{propagation.specs.Assumptions.{AreSameClauses, HasAt}, std.proofs.Common.{Option, Some}}
use Rattle.std.proofs.{Common.{arith, is_some, true, ℕ, ◌≡◌}, lemmas.Bool.false≢true}
use Rattle.std.{proofs.lemmas.Option.same_Some, specs.{FinMap.FinMap, Ordering.nat_cmp}}
use Rattle.std.specs.FinMap as maps

-- what is there
some_there : {X : Type 0} (o : Option X) → is_some o ≡ true → (x : X) × (o ≡ Some x)
some_there o h = grind (arith, false≢true)

same_has : (c d : Clause) → same_clause c d ≡ true → (l : Literal) → has c l ≡ has d l
same_has c d same l = grind (arith, both_pass, same_there, same_back)

module _ (live kept : FinMap nat_cmp Clause) (same : AreSameClauses live kept) where
  -- the clause of the store in a slot that is alive
  pub kept_at : (s : ℕ) (d : Clause) → maps.get live s ≡ Some d → (c : Clause)
      × (maps.get kept s ≡ Some c) × (same_clause d c ≡ true)
  kept_at s d at = grind (arith, some_there, same_Some)

  pub live_has_at : (l : Literal) (s : ℕ) → HasAt (maps.get kept) l s → HasAt (maps.get live) l s
  live_has_at l s h = grind (arith, same_has)

  pub kept_has_at : (l : Literal) (s : ℕ) → HasAt (maps.get live) l s → HasAt (maps.get kept) l s
  kept_has_at l s h = grind (arith, kept_at, same_has)

  pub kept_copies : (l : Literal) → copies_with kept l ≡ copies_with live l
  kept_copies l = grind (arith, sum_lighter, same_has, weight_at, kept_at)
