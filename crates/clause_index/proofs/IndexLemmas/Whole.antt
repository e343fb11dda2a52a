-- What is held, through a change of the clauses.
use Rattle.{clause_index.specs.Code.Chains.{Indexes, IsIndexed, hash_in}, std.specs.FinMap.FinMap}
use Rattle.clause_index.specs.{Hashes.hash, declared.index.Index.Index}
use Rattle.cnf_base.proofs.MapLemmas.{insert_here, insert_other, remove_here, remove_other}
use Rattle.{cnf_base.specs.Literals.Clause, std.proofs.Common.{subst, sym, ℕ, ◌==◌, ◌≡◌, ◌≢◌}}
use Rattle.std.proofs.Common.{None, Option, Some, ap, arith, if◌then◌else◌, nat_cmp, option_map}
use Rattle.std.specs.FinMap as maps

module _ (seed : ℕ) (live : FinMap nat_cmp Clause) (slot : ℕ) where
  pub held_less : (s : ℕ)
      → (if s == slot then None else hash_in seed live s) ≡ hash_in seed (maps.remove live slot) s
  held_less s = grind (arith, remove_here, remove_other)

-- one more clause, in a slot that had none
pub index_more : (index more : Index) (live : FinMap nat_cmp Clause) (slot : ℕ) (c : Clause) (key : ℕ)
    → ((held now : ℕ → Option ℕ) → IsIndexed index held → held slot ≡ None → now slot ≡ Some key
    → ((s : ℕ) → s ≢ slot → now s ≡ held s) → IsIndexed more now)
    → more.seed ≡ index.seed → key ≡ hash index.seed c → Indexes index live → maps.get live slot ≡ None
    → Indexes more (maps.insert live slot c)
index_more index more live slot c key put seed is indexed free =
    subst (λ n. IsIndexed more (hash_in n (maps.insert live slot c))) (sym seed)
    (put (hash_in index.seed live) (hash_in index.seed (maps.insert live slot c)) indexed (ap (option_map (hash index.seed)) free)
    (grind (arith, option_map, insert_here))
    (grind (arith, option_map, insert_other)))

module _ (index : Index) (live : FinMap nat_cmp Clause) (sound : Indexes index live) where
  -- a clause in the place of one with the same hash
  pub index_swapped : (k : ℕ) (c d : Clause) → maps.get live k ≡ Some c
      → hash index.seed d ≡ hash index.seed c → Indexes index (maps.insert live k d)
  index_swapped k c d here alike = grind (arith, insert_here, insert_other)
