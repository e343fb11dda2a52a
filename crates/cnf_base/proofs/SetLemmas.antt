-- Lists as the sets of their literals.
use Rattle.cnf_base.{proofs.LiteralLemmas.complement-complement, specs.Literals.{Clause, Literal}}
use Rattle.cnf_base.specs.Literals.{complement, complements, has, same_clause, without}
use Rattle.std.proofs.Common.{Bool, List, [], arith, eq-eqb, eqb, false, filter, refl, true, ◌++◌}
use Rattle.std.proofs.{Common.{◌==◌, ◌∷◌, ◌≡◌, ◌≢◌, ◌⊎◌}, lemmas.Bool.{or_left, or_right}}
use Rattle.std.{proofs.lemmas.List.Folds.list_any-append, specs.List.{list_all, list_any}}

-- two tests that pass together are equal
pub both_pass : (a b : Bool) → (a ≡ true → b ≡ true) → (b ≡ true → a ≡ true) → a ≡ b
both_pass a b there back = grind arith

pub has_head : (l : Literal) (ls : List Literal) → has (l ∷ ls) l ≡ true
has_head l ls = or_left (eqb l l) (has ls l) (eq-eqb l l refl)

pub has_tail : (k : Literal) (ls : List Literal) (l : Literal) → has ls l ≡ true
    → has (k ∷ ls) l ≡ true
has_tail k ls l h = or_right (eqb k l) (has ls l) h

pub has_cases : (k : Literal) (ls : List Literal) (l : Literal) → has (k ∷ ls) l ≡ true
    → (k ≡ l) ⊎ (has ls l ≡ true)
has_cases k ls l h = grind arith

module _ (p : Literal → Bool) where
  -- a test of some member, and of each
  pub any_from : (ls : List Literal) (l : Literal) → has ls l ≡ true → p l ≡ true
      → list_any p ls ≡ true
  any_from [] l h q = absurd (cc)
  any_from (k ∷ ls) l h q = let later = any_from ls l in grind arith

  pub any_some : (ls : List Literal) → list_any p ls ≡ true → (l : Literal) × (has ls l ≡ true)
      × (p l ≡ true)
  any_some [] h = absurd (cc)
  any_some (k ∷ ls) h = grind (arith, any_some ls, has_head, has_tail)

  pub any_none : (ls : List Literal) (l : Literal) → list_any p ls ≡ false → has ls l ≡ true
      → p l ≡ false
  any_none ls l none h = grind (arith, any_from)

  pub all_each : (ls : List Literal) (l : Literal) → list_all p ls ≡ true → has ls l ≡ true
      → p l ≡ true
  all_each [] l all h = absurd (cc)
  all_each (k ∷ ls) l all h = let later = all_each ls l in grind arith

  pub each_all : (ls : List Literal) → ((l : Literal) → has ls l ≡ true → p l ≡ true)
      → list_all p ls ≡ true
  each_all [] each = refl
  each_all (k ∷ ls) each = grind (arith, each_all ls, has_head, has_tail)

  pub has-filter : (ls : List Literal) (l : Literal) → has ls l ≡ true → p l ≡ true
      → has (filter p ls) l ≡ true
  has-filter [] l h q = h
  has-filter (k ∷ ls) l h q = let later = has-filter ls l in grind arith

  pub filter_has : (ls : List Literal) (l : Literal) → has (filter p ls) l ≡ true
      → (has ls l ≡ true) × (p l ≡ true)
  filter_has [] l h = absurd (cc)
  filter_has (k ∷ ls) l h = let later = filter_has ls l in grind arith

pub has_append_left : (xs ys : List Literal) (l : Literal) → has xs l ≡ true
    → has (xs ++ ys) l ≡ true
has_append_left xs ys l h = cc (list_any-append (λ k. k == l) xs ys)

pub has_append_right : (xs ys : List Literal) (l : Literal) → has ys l ≡ true
    → has (xs ++ ys) l ≡ true
has_append_right xs ys l h = grind (arith, list_any-append (λ k. k == l) xs ys)

pub has_append_cases : (xs ys : List Literal) (l : Literal) → has (xs ++ ys) l ≡ true
    → (has xs l ≡ true) ⊎ (has ys l ≡ true)
has_append_cases xs ys l h = grind (arith, list_any-append (λ k. k == l) xs ys)

pub has-complements : (ls : List Literal) (l : Literal) → has ls l ≡ true
    → has (complements ls) (complement l) ≡ true
has-complements [] l h = h
has-complements (k ∷ ls) l h = let later = has-complements ls l in grind arith

pub complements_has : (ls : List Literal) (l : Literal) → has (complements ls) l ≡ true
    → has ls (complement l) ≡ true
complements_has [] l h = h
complements_has (k ∷ ls) l h =
    let later = complements_has ls l in grind (arith, complement-complement)

pub has-without : (ls : List Literal) (m l : Literal) → has ls l ≡ true → l ≢ m
    → has (without ls m) l ≡ true
has-without ls m l h ne = grind (arith, has-filter)

pub without_has : (ls : List Literal) (m l : Literal) → has (without ls m) l ≡ true
    → (has ls l ≡ true) × (l ≢ m)
without_has ls m l h = grind (arith, filter_has)

-- ---- Clauses that are the same set

module _ (c d : Clause) where
  pub same_there : same_clause c d ≡ true → (l : Literal) → has c l ≡ true → has d l ≡ true
  same_there same l h = grind (arith, all_each)

  pub same_back : same_clause c d ≡ true → (l : Literal) → has d l ≡ true → has c l ≡ true
  same_back same l h = grind (arith, all_each)

  pub same_from : ((l : Literal) → has c l ≡ true → has d l ≡ true)
      → ((l : Literal) → has d l ≡ true → has c l ≡ true) → same_clause c d ≡ true
  same_from there back = grind (arith, each_all)

pub same_itself : (c : Clause) → same_clause c c ≡ true
same_itself c = same_from c c (λ l h. h) (λ l h. h)

pub same_symm : (c d : Clause) → same_clause c d ≡ true → same_clause d c ≡ true
same_symm c d same = same_from d c (same_back c d same) (same_there c d same)

pub same_trans : (c d e : Clause) → same_clause c d ≡ true → same_clause d e ≡ true
    → same_clause c e ≡ true
same_trans c d e first second = grind (arith, same_back)

pub same_empty : (d : Clause) → same_clause [] d ≡ true → d ≡ []
same_empty [] same = refl
same_empty (l ∷ d) same = grind arith
