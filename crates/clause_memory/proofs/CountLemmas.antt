-- How many blocks and how many clauses there are of one size.
use Rattle.clause_memory.proofs.{BlockLemmas.block_is, ClauseLemmas.{alive_kind, clause_len}}
use Rattle.clause_memory.proofs.ClauseLemmas.{few_clauses, get_live, stored_is}
use Rattle.clause_memory.specs.Blocks.{AddsFewBlocks, blocks_with, cells_for, cells_in}
use Rattle.clause_memory.specs.{Blocks.clauses_with, Code.Cells.{blocks_in, clauses_in}}
use Rattle.clause_memory.specs.{Code.Fields.IsMemory, declared.kind.Kind.Kind}
use Rattle.cnf_base.proofs.MapLemmas.{inserted_is, remove_here, remove_other, sum_insert}
use Rattle.cnf_base.{proofs.MapLemmas.{sum_lighter, sum_remove, weight_at}, specs.Literals.Clause}
use Rattle.std.proofs.Common.{List, None, Option, Some, arith, cond, eqb, is_some, length, nat_cmp}
use Rattle.std.{proofs.Common.{refl, true, ℕ, ◌+◌, ◌≡◌, ◌≢◌, ◌≤◌}, specs.FinMap.FinMap}
use Rattle.std.specs.FinMap as maps

-- ---- Blocks and clauses

module _ {ks : List Kind} {words : List ℕ} {heads : ℕ → Option ℕ} (memory : IsMemory ks words heads) where
  -- the block of a clause has the cells that the clause needs
  one_for_each : (n s : ℕ) → maps.get (blocks_in ks) s ≡ Some n
      → is_some (maps.get (clauses_in ks words) s) ≡ true
      → weight_at (λ c. cond (eqb (cells_for (length c)) n) 1 0) (maps.get (clauses_in ks words) s)
      ≡ 1
  one_for_each n s here alive =
      grind (arith, alive_kind, clause_len memory s, block_is (memory.block s (alive_kind ks words s alive)), get_live)

  -- where each block of one size has a clause there are as many of these
  pub none_left : (n : ℕ) → ((s : ℕ) → maps.get (blocks_in ks) s ≡ Some n
      → is_some (maps.get (clauses_in ks words) s) ≡ true)
      → blocks_with n (blocks_in ks) ≤ clauses_with n (clauses_in ks words)
  none_left n full =
      sum_lighter _ _ (blocks_in ks) (clauses_in ks words) (λ s m here. grind (arith, one_for_each n s))

-- one block alone that is new, or has another size
pub one_block_more : (old new : FinMap nat_cmp ℕ) (slot n : ℕ) → maps.get new slot ≡ Some n → ((s : ℕ) → s ≢ slot → maps.get new s ≡ maps.get old s) → cells_in new ≤ cells_in old + n
one_block_more old new slot n here others = by_option (maps.get old slot) refl
  where
    by_option : (o : Option ℕ) → maps.get old slot ≡ o → cells_in new ≤ cells_in old + n
    by_option None is =
        grind (arith, inserted_is old new slot n here others, sum_insert (λ m. m) old slot n is)
    by_option (Some m) is =
        grind (arith, sum_remove (λ m. m) old slot m is, inserted_is (maps.remove old slot) new slot n here (grind (arith, remove_other)), sum_insert (λ m. m) (maps.remove old slot) slot n (remove_here old slot slot refl))

-- a further block, where each of its size has a clause
pub one_more_block : (old new : FinMap nat_cmp ℕ) (live : FinMap nat_cmp Clause) (slot added : ℕ)
    → blocks_with added old ≤ clauses_with added live → maps.get old slot ≡ None
    → maps.get new slot ≡ Some added → ((s : ℕ) → s ≢ slot → maps.get new s ≡ maps.get old s)
    → AddsFewBlocks old new live added
one_more_block old new live slot added full free here others n =
    grind (arith, inserted_is old new slot added here others, sum_insert)

pub ruleset insert_facts = (few_clauses, stored_is, one_block_more)
