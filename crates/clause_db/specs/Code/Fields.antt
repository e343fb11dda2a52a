-- What is so of the fields of a store.
use Rattle.std.specs.FinMap as maps
use Rattle.std.specs.FinMap.{FinMap}
use Rattle.std.specs.Ordering.{nat_cmp}
use Rattle.std.specs.Prelude.{ℕ, ◌≡◌, ◌<◌, Bool, true, false, Some, None, length, IsSome}
use Rattle.std.specs.Prelude.{IsTrue}
use Rattle.cnf_base.specs.Literals.{Clause, has, same_clause, size}
use Rattle.clause_memory.specs.Memory as memory
use Rattle.clause_memory.specs.Memory.{MemoryState}
use Rattle.tables.specs.ByKey.{at}
use Rattle.tables.specs.declared.by_key.ByKey.{ByKey}
use Rattle.clause_db.specs.Code.LiteralMarks.{is_marked}

-- no clause repeats a literal, the table knows each literal of a clause and has no marks, and the
-- sum is that of the lengths
pub record IsStore (live : FinMap nat_cmp Clause) (stored : ℕ) (marks : ByKey Bool) (sum : ℕ) :
    Type 0 where
  pub different : (s : ℕ) (c : Clause) → maps.get live s ≡ Some c → size c ≡ length c
  pub short : (s : ℕ) (c : Clause) → maps.get live s ≡ Some c → length c < 18446744073709551616
  pub known : (s : ℕ) (c : Clause) → maps.get live s ≡ Some c →
      (l : ℕ) → has c l ≡ true → IsSome (at marks l)
  pub clear : (l : ℕ) → is_marked (at marks l) ≡ false
  pub stored_is : stored ≡ memory.literals_in live
  pub sum_is : sum ≡ stored

-- a slot that was free has the clause of these literals, without repeated ones, and the others are
-- as before
pub record IsTakenIn (old new : MemoryState) (slot : ℕ) (lits : Clause) : Type 0 where
  pub clause : Clause
  pub same : IsTrue (same_clause clause lits)
  pub different : size clause ≡ length clause
  pub short : length clause < 18446744073709551616
  pub free : maps.get old.live slot ≡ None
  pub live : new.live ≡ maps.insert old.live slot clause
  pub stored : new.stored ≡ memory.literals_in new.live
  pub low : slot < 4294967295
  pub few : maps.len old.live < 4294967295
