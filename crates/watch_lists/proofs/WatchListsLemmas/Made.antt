-- The lists of all clauses: one clause more or less.
use Rattle.{clause_db.specs.Store.is_tautology, std.specs.FinMap.FinMap}
use Rattle.cnf_base.proofs.MapLemmas.{insert_here, insert_other, remove_here, remove_other}
use Rattle.cnf_base.{proofs.MapLemmas.{sum_insert, sum_remove}, specs.Literals.{Clause, size}}
use Rattle.std.proofs.Common.{Bool, IsSome, None, Option, Some, arith, cond, eqb, false, length}
use Rattle.std.proofs.Common.{nat_le, not, rules, true, ℕ, ◌&&◌, ◌+◌, ◌<◌, ◌≡◌, ◌≢◌}
use Rattle.{std.specs.Ordering.nat_cmp, watch_lists.proofs.WatchListsLemmas.Lists.unfit_absent}
use Rattle.watch_lists.specs.{Lists.entries_in, declared.lists.WatchLists.WatchLists}
use Rattle.watch_lists.specs.Watched.{AddsFitting, HasAll, HasEntry, is_unit_or_empty, is_unwatched}
use Rattle.std.specs.FinMap as maps

pub and_true : (b : Bool) → cond {A = ℕ} (b && true) 1 0 ≡ cond b 1 0
and_true b = search rules

pub and_false : (b : Bool) → cond {A = ℕ} (b && false) 1 0 ≡ 0
and_false b = search rules

-- ---- What a clause counts as

pub long_is : (c : Clause) → size c ≡ length c → nat_le 2 (size c) ≡ not (is_unit_or_empty c)
long_is c h1 = search rules

-- whether it is watched
abbrev pub is_counted : Clause → Bool
is_counted c = nat_le 2 (size c) && not (is_tautology c)

-- ---- One clause more or less

module _ (live after : FinMap nat_cmp Clause) (slot : ℕ) (c : Clause) where
  module _ (free : maps.get live slot ≡ None) (is : after ≡ maps.insert live slot c) where
    others : (s : ℕ) → s ≢ slot → maps.get after s ≡ maps.get live s
    others s ne = search (rules, arith, insert_other)

    here : (s : ℕ) → s ≡ slot → maps.get after s ≡ Some c
    here s e = search (rules, arith, insert_here)

    pub added : (f : Option Clause → ℕ) → f None ≡ 0 → (b : Bool) → f (Some c) ≡ cond b 1 0 → (s n : ℕ) → n ≡ f (maps.get live s) → n + cond {A = ℕ} (b && eqb s slot) 1 0 ≡ f (maps.get after s)
    added f zero b one s n was = search (rules, arith, insert_here, insert_other)

    pub low_added : slot < 2147483648 → ((s : ℕ) → IsSome (maps.get live s) → s < 2147483648) → (s : ℕ) → IsSome (maps.get after s) → s < 2147483648
    low_added low was s there = search (rules, arith, others)

    pub all_added : size c ≡ length c → slot < 2147483648 → (lists lists2 : WatchLists) → HasEntry c slot lists2 lists → AddsFitting c slot lists lists2 → entries_in lists2 ≡ entries_in lists + cond (is_unwatched c) 0 2 → HasAll live lists → HasAll after lists2
    all_added different low lists lists2 times fewer entries was =
        search (rules, arith, sum_insert, unfit_absent, here, others)

  module _ (there : maps.get live slot ≡ Some c) (is : after ≡ maps.remove live slot) where
    others_stay : (s : ℕ) → s ≢ slot → maps.get after s ≡ maps.get live s
    others_stay s ne = search (rules, arith, remove_other)

    is_gone : (s : ℕ) → s ≡ slot → maps.get after s ≡ None
    is_gone s e = search (rules, arith, remove_here)

    pub removed : (f : Option Clause → ℕ) → f None ≡ 0 → (b : Bool) → f (Some c) ≡ cond b 1 0 → (s n : ℕ) → n + cond {A = ℕ} (b && eqb s slot) 1 0 ≡ f (maps.get live s) → n ≡ f (maps.get after s)
    removed f zero b one s n was = search (rules, arith, is_gone, others_stay)

    pub low_left : ((s : ℕ) → IsSome (maps.get live s) → s < 2147483648) → (s : ℕ) → IsSome (maps.get after s) → s < 2147483648
    low_left was s alive = search (rules, arith, others_stay)

    pub all_removed : size c ≡ length c → (lists lists2 : WatchLists) → HasEntry c slot lists lists2 → AddsFitting c slot lists lists2 → entries_in lists2 + cond (is_unwatched c) 0 2 ≡ entries_in lists → HasAll live lists → HasAll after lists2
    all_removed different lists lists2 times fewer entries was =
        search (rules, arith, sum_remove, is_gone, others_stay)
