-- Walks over a list of literals: what is so of those so far, through one more.
use Rattle.std.proofs.Common.{◌≡◌, ℕ, ◌+◌, ◌<◌, ◌||◌, true, eqb, [], ◌∷◌, ◌++◌, arith, length, take}
use Rattle.std.proofs.{Common.drop, Common.get_or, Common.take-append-drop, lemmas.List.take_more}
use Rattle.cnf_base.proofs.SetLemmas.{both_pass, has_append_left, has_append_right}
use Rattle.cnf_base.specs.{Literals.Literal, Literals.Clause, Literals.has}
use Rattle.cnf_base.proofs.{SetLemmas.has_append_cases, SizeLemmas.has_at}

-- ---- One more literal at the end

pub has_push : (c : Clause) (x l : Literal) → has (c ++ x ∷ []) l ≡ (has c l || eqb x l)
has_push c x l =
    both_pass (has (c ++ x ∷ []) l) (has c l || eqb x l) (grind (arith, has_append_cases))
    (grind (arith, has_append_left, has_append_right))

pub has_take : (c : Clause) (n : ℕ) (l : Literal) → has (take n c) l ≡ true → has c l ≡ true
has_take c n l h = cc (take-append-drop n c, has_append_left (take n c) (drop n c) l h)

-- ---- One turn of a walk: x is the literal at i

module _ (c : Clause) (i : ℕ) (inside : i < length c) (x : Literal) (is : x ≡ get_or c i x) where
  pub take_is : take (i + 1) c ≡ take i c ++ x ∷ []
  take_is = cc (take_more c i x inside)

  pub has_more : (l : Literal) → has (take (i + 1) c) l ≡ (has (take i c) l || eqb x l)
  has_more l = grind (arith, take_is, has_push)

  pub is_in : has c x ≡ true
  is_in = has_at c i x inside is
