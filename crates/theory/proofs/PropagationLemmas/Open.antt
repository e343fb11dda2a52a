-- The literals of a clause that are not false.
use Rattle.cnf_base.proofs.SetLemmas.{all_each, each_all, filter_has, has-filter, has_cases}
use Rattle.{cnf_base.proofs.SetLemmas.{has_head, has_tail}, theory.specs.Propagation.open_literals}
use Rattle.cnf_base.specs.Literals.{Clause, Literal, complement, has}
use Rattle.std.proofs.Common.{List, eq-eqb, eqb, eqb-true, false, rules, sym, true, ◌∙◌, ◌∷◌, ◌≡◌}
use Rattle.std.{proofs.{Common.◌⊎◌, lemmas.Bool.{cases_Bool, not-true}}, specs.List.list_all}

-- each literal of the list is this one
abbrev pub AreAll : List Literal → Literal → Type 0
AreAll ls m = (l : Literal) → has ls l ≡ true → l ≡ m

-- this literal is in the list, however often, and no other
abbrev pub IsAlone : List Literal → Literal → Type 0
IsAlone ls m = (has ls m ≡ true) × AreAll ls m

module _ (k : Literal) (ls : List Literal) where
  pub first_alone : list_all (λ l. eqb l k) ls ≡ true → IsAlone (k ∷ ls) k
  first_alone t = search (rules, has_head, has_cases, eqb-true, all_each)

  pub alone_first : (m : Literal) → AreAll (k ∷ ls) m → list_all (λ l. eqb l k) ls ≡ true
  alone_first m same =
      each_all (λ l. eqb l k) ls (λ l h.
      eq-eqb l k (same l (has_tail k ls l h) ∙ sym (same k (has_head k ls))))

module _ (ls : List Literal) (c : Clause) where
  pub open_has : (l : Literal) → has (open_literals ls c) l ≡ true
      → (has c l ≡ true) × (has ls (complement l) ≡ false)
  open_has l h = search (rules, filter_has, not-true)

  -- a literal of the clause is not false, or its complement is in the list
  pub open_cases : (l : Literal) → has c l ≡ true
      → (has (open_literals ls c) l ≡ true) ⊎ (has ls (complement l) ≡ true)
  open_cases l member = search (rules, cases_Bool, has-filter)
