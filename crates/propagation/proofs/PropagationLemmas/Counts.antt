-- How many clauses have a literal, and that one is found where the number isn't 0.
use Rattle.{clause_db.specs.Store.copies_with, cnf_base.proofs.MapLemmas.sum_remove}
use Rattle.{cnf_base.specs.Literals.{Clause, Literal}, propagation.specs.Assumptions.HasAt}
use Rattle.std.proofs.Common.{Bool, List, Some, T, [], arith, eq-eqb, eqb-true, inl, inr, is_lt}
use Rattle.std.proofs.Common.{map, refl, rules, sum_by, sym, true, ℕ, ◌&&◌, ◌+◌, ◌<◌, ◌∙◌, ◌∷◌, ◌≡◌}
use Rattle.std.proofs.{Common.◌≢◌, lemmas.Bool.{cases_Bool, cases_eq, false_from_ne_true}}
use Rattle.std.{proofs.lemmas.{List.Sums.sum_by-cons, Option.none-some}, specs.Cmp.unsigned_tied}
use Rattle.std.specs.{FinMap.{FinMap, find, is_sorted, Entries.below_all}, Ordering.eq_by_cmp}
use Rattle.std.specs.Ordering.{nat_cmp}
use Rattle.std.specs.FinMap as maps

-- ---- One that is there is counted

pub copies_without : (live : FinMap nat_cmp Clause) (l : Literal) (s : ℕ)
    → HasAt (maps.get live) l s → 1 + copies_with (maps.remove live s) l ≡ copies_with live l
copies_without live l s h = grind (arith, sum_remove)

pub none_with : (live : FinMap nat_cmp Clause) (l : Literal) → copies_with live l ≡ 0 → (s : ℕ)
    → ¬ HasAt (maps.get live) l s
none_with live l none s h = search (rules, copies_without)

-- ---- One that is counted is there

pub tied : {k : ℕ} (q : ℕ) → eq_by_cmp nat_cmp q k ≡ true → q ≡ k
tied {k} q e = eqb-true q k (sym (unsigned_tied q k) ∙ e)

pub above : (x k : ℕ) → T (is_lt (nat_cmp x k)) → x < k
above x k h = grind arith

pub both : (a b : Bool) → T (a && b) → T a × T b
both a b h = grind arith

pub below_found : (x : ℕ) (es : List (ℕ × Clause)) (k : ℕ) (c : Clause) → T (below_all nat_cmp x es)
    → find nat_cmp k es ≡ Some c → x < k
below_found x [] k c below at = absurd (none-some c at)
below_found x (e ∷ es) k c below at =
    grind (arith, below_found x es k c, both, is_lt, cases_Bool, tied, above)

counted_found : (w : Clause → ℕ) (es : List (ℕ × Clause)) → T (is_sorted nat_cmp es)
    → sum_by w (map (λ e. e.1) es) ≢ 0 → (k : ℕ) × (c : Clause) × (find nat_cmp k es ≡ Some c)
    × (w c ≢ 0)
counted_found w [] sorted some = absurd (some refl)
counted_found w (e ∷ es) sorted some = elim (cases_eq (w e.1) 0) [
  | inl none ↦
      let rest = counted_found w es (grind (arith, both)) (grind (arith, sum_by-cons)) in
      (rest.0, rest.1, grind (arith, both, below_found, false_from_ne_true, tied), rest.3)
  | inr counts ↦ (e.0, e.1, grind (arith, unsigned_tied, eq-eqb), counts)
]

pub some_with : (live : FinMap nat_cmp Clause) (l : Literal) → copies_with live l ≢ 0 → (s : ℕ) × HasAt (maps.get live) l s
some_with live l some =
    let w = counted_found _ (maps.entries live) (maps.entries_sorted live) some in
    (w.0, record { clause = w.1; at = maps.get-entries live w.0 ∙ w.2; member = grind arith })
