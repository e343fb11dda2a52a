-- What is so of the fields of a store, through a change.
use Rattle.clause_db.specs.{Code.{Fields.IsStore, LiteralMarks.is_marked}, Store.literals_in}
use Rattle.cnf_base.proofs.MapLemmas.{after_insert, after_remove, insert_here, insert_other}
use Rattle.cnf_base.proofs.MapLemmas.{sum_alike, sum_bound, sum_empty, sum_insert, sum_remove}
use Rattle.cnf_base.{proofs.{MapLemmas.sum_replace, SizeLemmas.size_same}, specs.Literals.Clause}
use Rattle.{cnf_base.specs.Literals.{has, size}, std.proofs.Common.{Bool, None, Some, arith, false}}
use Rattle.std.proofs.Common.{is_some, length, nat_cmp, true, ℕ, ◌*◌, ◌+◌, ◌-◌, ◌<◌, ◌≡◌, ◌≤◌}
use Rattle.{std.specs.FinMap.FinMap, tables.specs.{ByKey.at, declared.by_key.ByKey.ByKey}}
use Rattle.std.specs.FinMap as maps
use Rattle.clause_memory.specs.Memory as memory

-- ---- No clauses

pub sound_empty : (marks : ByKey Bool) → ((l : ℕ) → at marks l ≡ None)
    → IsStore maps.empty 0 marks 0
sound_empty marks no_marks = grind (arith, maps.get-empty, sum_empty)

module _ (live : FinMap nat_cmp Clause) (stored : ℕ) (marks : ByKey Bool) (sum : ℕ) (sound : IsStore live stored marks sum) where
  -- ---- What is kept

  pub live_alone : stored ≡ literals_in live
  live_alone = grind (arith, sum_alike)

  pub sum_fits : sum ≤ 18446744073709551615 * maps.len live
  sum_fits = grind (arith, sum_bound)

  -- ---- The same clauses

  -- ---- One clause more

  module _ (k : ℕ) (x : Clause) (free : maps.get live k ≡ None) (different : size x ≡ length x) (short : length x < 18446744073709551616) (after : ByKey Bool)
      (known : (l : ℕ) → has x l ≡ true → is_some (at after l) ≡ true) (kept_known : (l : ℕ) → is_some (at marks l) ≡ true → is_some (at after l) ≡ true) (clear : (l : ℕ) → is_marked (at after l) ≡ false) where
    pub sound_with : (kept : ℕ) → kept ≡ memory.literals_in (maps.insert live k x)
        → IsStore (maps.insert live k x) kept after (sum + length x)
    sound_with kept kept_is = grind (arith, after_insert, sum_insert)

  -- ---- One clause less

  module _ (k : ℕ) (x : Clause) (here : maps.get live k ≡ Some x) where
    pub within_sum : length x ≤ sum
    within_sum = grind (arith, sum_remove length live k x here)

    pub sound_without : (kept : ℕ) → kept ≡ memory.literals_in (maps.remove live k)
        → IsStore (maps.remove live k) kept marks (sum - length x)
    sound_without kept kept_is = grind (arith, after_remove, sum_remove)

    -- ---- A clause in the place of one with the same literals

    pub sound_replaced : (y : Clause) → ((l : ℕ) → has y l ≡ has x l) → length y ≡ length x
        → (kept : ℕ) → kept ≡ memory.literals_in (maps.insert live k y)
        → IsStore (maps.insert live k y) kept marks sum
    sound_replaced y alike as_long kept kept_is =
        grind (arith, after_insert, same_size, sum_replace)
      where
        same_size : size y ≡ size x
        same_size = grind (arith, size_same)

-- what is said of a clause that is inserted
pub ruleset insert_steps = (insert_here, insert_other)
