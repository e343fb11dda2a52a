-- The occurrences of literals in the clauses, through a change.
use Rattle.clause_db.specs.{Code.Kept.{AreKept, AreOf, has_in}, Store.IsTouchedAt}
use Rattle.cnf_base.proofs.MapLemmas.{insert_here, insert_other, remove_here, remove_other}
use Rattle.cnf_base.{proofs.MapLemmas.same_maps, specs.Literals.{Clause, Literal, complement, has}}
use Rattle.occurrences.specs.{Occurrences.occurs, declared.by_literal.Occurrences.Occurrences}
use Rattle.std.proofs.Common.{List, None, Option, Some, [], arith, eqb, false, nat_cmp, not, refl}
use Rattle.std.proofs.Common.{rules, sym, true, ℕ, ◌&&◌, ◌<◌, ◌||◌, ◌∙◌, ◌∷◌, ◌≡◌}
use Rattle.std.{proofs.lemmas.Bool.false≢true, specs.{FinMap.FinMap, List.list_any}}
use Rattle.std.specs.FinMap as maps

-- ---- A clause that is taken out again

pub insert_undone : (live : FinMap nat_cmp Clause) (k : ℕ) (c : Clause) → maps.get live k ≡ None
    → maps.remove (maps.insert live k c) k ≡ live
insert_undone live k c none = grind (arith, same_maps, remove_here, remove_other, insert_other)

-- ---- Occurrences

pub of_with : (old new : Occurrences) (live : FinMap nat_cmp Clause) (k : ℕ) (c : Clause)
    → AreOf old live → maps.get live k ≡ None → k < 4294967296
    → ((l s : ℕ) → occurs new l s ≡ (occurs old l s || (has c l && eqb s k)))
    → AreOf new (maps.insert live k c)
of_with old new live k c are none low is = search (rules, insert_here, insert_other)

pub of_without : (old new : Occurrences) (live : FinMap nat_cmp Clause) (k : ℕ) → AreOf old live
    → ((l s : ℕ) → occurs new l s ≡ (occurs old l s && not (eqb s k)))
    → AreOf new (maps.remove live k)
of_without old new live k are is = grind (arith, remove_here, remove_other)

-- a clause in the place of one with the same literals
pub kept_replaced : (kept : Option Occurrences) (live : FinMap nat_cmp Clause) (k : ℕ)
    (c d : Clause) → maps.get live k ≡ Some c → ((l : ℕ) → has d l ≡ has c l) → AreKept kept live
    → AreKept kept (maps.insert live k d)
kept_replaced kept live k c d here alike are = grind (arith, insert_here, insert_other)

-- ---- A slot whose clause has one of the literals

none_has : (lits : List Literal) → list_any (λ l. has_in None l) lits ≡ false
none_has [] = refl
none_has (l ∷ lits) = none_has lits

pub touched_from : (live : FinMap nat_cmp Clause) (lits : List Literal) (s : ℕ)
    → list_any (λ l. has_in (maps.get live s) (complement l)) lits ≡ true → IsTouchedAt live lits s
touched_from live lits s h = by_clause (maps.get live s) refl h
  where
    by_clause : (o : Option Clause) → maps.get live s ≡ o
        → list_any (λ l. has_in o (complement l)) lits ≡ true → IsTouchedAt live lits s
    by_clause None is any = absurd (false≢true (sym (none_has lits) ∙ any))
    by_clause (Some c) is any = record { clause = c; at = is; touched = any }
