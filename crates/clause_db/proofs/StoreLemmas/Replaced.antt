-- A clause in the place of one with the same literals, in all fields of a store.
use Rattle.clause_db.proofs.StoreLemmas.{Counts.counted_replaced, Fields.sound_replaced}
use Rattle.clause_db.{proofs.StoreLemmas.Kept.kept_replaced, specs.Code.Counts.AreCounted}
use Rattle.{clause_db.specs.Code.Fields.IsStore, clause_index.specs.Code.Chains.Indexes}
use Rattle.{clause_db.specs.Code.Kept.AreKept, cnf_base.specs.Literals.{Clause, has}}
use Rattle.clause_index.proofs.IndexLemmas.{Hashes.hash_same, Whole.index_swapped}
use Rattle.{clause_index.specs.declared.index.Index.Index, tables.specs.declared.by_key.ByKey.ByKey}
use Rattle.{occurrences.specs.declared.by_literal.Occurrences.Occurrences, std.specs.FinMap.FinMap}
use Rattle.std.{proofs.Common.{Bool, Option, Some, arith, length, ℕ, ◌≡◌}, specs.Ordering.nat_cmp}
use Rattle.std.specs.FinMap as maps
use Rattle.clause_memory.specs.Memory as memory

module _ (index : Index) (occurrences : Option Occurrences) (counts : Option (ByKey ℕ))
    (marks : ByKey Bool) (sum : ℕ) where
  -- what is so of the fields
  abbrev pub AreFields : FinMap nat_cmp Clause → ℕ → Type 0
  AreFields live stored =
      IsStore live stored marks sum × Indexes index live × AreKept occurrences live
      × AreCounted counts live

  pub all_replaced : (live now : FinMap nat_cmp Clause) (stored kept k : ℕ) (x y : Clause)
      → AreFields live stored → maps.get live k ≡ Some x
      → ((l : ℕ) → has y l ≡ has x l) → length y ≡ length x
      → now ≡ maps.insert live k y → kept ≡ memory.literals_in now → AreFields now kept
  all_replaced live now stored kept k x y are here alike as_long is alone =
      let hashes = hash_same index.seed y x (grind arith) (grind arith) in
      grind (arith, sound_replaced live stored marks sum are.0 k x here y alike as_long kept, index_swapped index live are.1 k x y, kept_replaced, counted_replaced)
