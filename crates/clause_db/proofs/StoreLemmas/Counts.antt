-- How many of the clauses have a literal: through a change of the clauses, and so far in a walk.
use Rattle.clause_db.proofs.StoreLemmas.Marks.{eqb_turn, new_here, size_more}
use Rattle.clause_db.specs.{Code.{Counts.{AreCounted, count_of}, Kept.has_in}, Store.copies_with}
use Rattle.cnf_base.proofs.MapLemmas.{insert_here, insert_other, same_maps, sum_bound, sum_empty}
use Rattle.cnf_base.proofs.{MapLemmas.{sum_insert, sum_remove, sum_replace}, WalkLemmas.has_more}
use Rattle.cnf_base.{proofs.WalkLemmas.is_in, specs.Literals.{Clause, Literal, has, size}}
use Rattle.std.proofs.Common.{Bool, None, Option, Some, arith, cond, eqb, eqb-true, false, get_or}
use Rattle.std.proofs.Common.{is_some, length, refl, sym, take, true, ℕ, ◌+◌, ◌<◌, ◌∙◌, ◌≡◌, ◌≤◌}
use Rattle.{std.specs.{FinMap.FinMap, Ordering.nat_cmp}, tables.specs.ByKey.at}
use Rattle.tables.specs.declared.by_key.ByKey.{ByKey}
use Rattle.std.specs.FinMap as maps

abbrev with_literal : ℕ → Clause → ℕ
with_literal l c = cond (has c l) 1 0

pub copies_few : (live : FinMap nat_cmp Clause) (l : Literal) → copies_with live l ≤ maps.len live
copies_few live l = grind (arith, sum_bound (with_literal l) 1 live)

-- ---- Through a change of the clauses

module _ (old new : ByKey ℕ) (live : FinMap nat_cmp Clause) (k : ℕ) (c : Clause) (are : AreCounted (Some old) live) where
  pub counted_with : maps.get live k ≡ None
      → ((l : ℕ) → count_of (at new l) ≡ count_of (at old l) + cond (has c l) 1 0)
      → AreCounted (Some new) (maps.insert live k c)
  counted_with free counts l = grind (arith, sum_insert)

  pub counted_without : maps.get live k ≡ Some c
      → ((l : ℕ) → count_of (at new l) + cond (has c l) 1 0 ≡ count_of (at old l))
      → AreCounted (Some new) (maps.remove live k)
  counted_without here counts l = grind (arith, sum_remove)

-- a literal of a clause is counted
pub counted_here : (counts : ByKey ℕ) (live : FinMap nat_cmp Clause) (k : ℕ) (c : Clause)
    → AreCounted (Some counts) live → maps.get live k ≡ Some c → (l : ℕ) → has c l ≡ true
    → 0 < count_of (at counts l)
counted_here counts live k c are here l member =
    grind (arith, sum_remove (with_literal l) live k c here)

-- a clause in the place of one with the same literals
pub counted_replaced : (counts : Option (ByKey ℕ)) (live : FinMap nat_cmp Clause) (k : ℕ)
    (c d : Clause) → maps.get live k ≡ Some c → ((l : ℕ) → has d l ≡ has c l)
    → AreCounted counts live → AreCounted counts (maps.insert live k d)
counted_replaced counts live k c d here alike are = grind (arith, sum_replace)

-- ---- One turn of a walk over a clause that repeats nothing: x is the literal at i

module _ (c : Clause) (i : ℕ) (inside : i < length c) (x : Literal) (is : x ≡ get_or c i x) (different : size c ≡ length c) where
  pub met_more : (k : Literal) → cond {A = ℕ} (has (take (i + 1) c) k) 1 0
      ≡ cond (has (take i c) k) 1 0 + cond (eqb k x) 1 0
  met_more k =
      grind (arith, has_more c i inside x is k, new_here c i inside x is different, eqb-true)

-- ---- A walk over the slots

-- as many of the clauses below a slot have the literal
pub record IsCountBelow (live : FinMap nat_cmp Clause) (slot : ℕ) (l : Literal) (count : ℕ) : Type 0 where
  pub part : FinMap nat_cmp Clause
  pub below : (s : ℕ) → s < slot → maps.get part s ≡ maps.get live s
  pub above : (s : ℕ) → slot ≤ s → maps.get part s ≡ None
  pub count_is : count ≡ copies_with part l
  pub few : count ≤ slot

pub count_none : (live : FinMap nat_cmp Clause) (l : Literal) (count : ℕ) → count ≡ 0
    → IsCountBelow live 0 l count
count_none live l count none = record {
  part = maps.empty;
  below = grind arith;
  above = λ s high. maps.get-empty nat_cmp s;
  count_is = none ∙ sym (sum_empty (with_literal l));
  few = omega arith;
}

pub count_next : (live : FinMap nat_cmp Clause) (slot : ℕ) (l : Literal) (before after : ℕ)
    → IsCountBelow live slot l before → after ≡ before + cond (has_in (maps.get live slot) l) 1 0
    → IsCountBelow live (slot + 1) l after
count_next live slot l before after so_far step = by_clause (maps.get live slot) refl step
  where
    by_clause : (o : Option Clause) → maps.get live slot ≡ o
        → after ≡ before + cond (has_in o l) 1 0 → IsCountBelow live (slot + 1) l after
    by_clause None is step = record {
      part = so_far.part;
      below = grind arith;
      above = λ s high. so_far.above s (omega arith);
      count_is = omega arith;
      few = omega arith;
    }
    by_clause (Some c) is step = record {
      part = maps.insert so_far.part slot c;
      below = grind (arith, insert_other, insert_here);
      above = grind (arith, insert_other);
      count_is = grind (arith, sum_insert);
      few = let few = so_far.few in at_most (has c l) few step;
    }
      where
        at_most : (b : Bool) → before ≤ slot → after ≡ before + cond b 1 0 → after ≤ slot + 1
        at_most true few step = omega arith
        at_most false few step = omega arith

-- a count below a slot from which on there is no clause is that of all
pub count_whole : (live : FinMap nat_cmp Clause) (slot : ℕ) (l : Literal) (count : ℕ)
    → ((s : ℕ) → is_some (maps.get live s) ≡ true → s < slot) → IsCountBelow live slot l count
    → count ≡ copies_with live l
count_whole live slot l count all so_far = grind (arith, same_maps)

-- what is said of literals that are counted
pub ruleset count_steps = (met_more, new_here, size_more, is_in)
