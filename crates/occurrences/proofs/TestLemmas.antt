-- Tests of the elements of a list.
use Rattle.std.proofs.Common.{Bool, List, [], ap, arith, cond, false, filter, map, refl, sym, true}
use Rattle.std.{proofs.Common.{◌&&◌, ◌||◌, ◌∙◌, ◌∷◌, ◌≡◌}, specs.List.{list_all, list_any}}

pub and_true : (b : Bool) → (b && true) ≡ b
and_true b = grind arith

pub and_false : (b : Bool) → (b && false) ≡ false
and_false b = grind arith

module _ {X : Type 0} (p q : X → Bool) where
  -- a test of those who pass another one
  pub any_filter : (xs : List X) → list_any p (filter q xs) ≡ list_any (λ x. p x && q x) xs
  any_filter [] = refl
  any_filter (x ∷ xs) = by_test (q x) (list_any (λ y. p y && q y) xs) (any_filter xs)
    where
      by_test : (b r : Bool) → list_any p (filter q xs) ≡ r
          → list_any p (cond b (x ∷ filter q xs) (filter q xs)) ≡ ((p x && b) || r)
      by_test true r rest = cc (and_true (p x))
      by_test false r rest = rest ∙ ap (λ a. a || r) (sym (and_false (p x)))

  -- all pass a weaker test
  pub all_weaker : ((x : X) → p x ≡ true → q x ≡ true) → (xs : List X) → list_all p xs ≡ true
      → list_all q xs ≡ true
  all_weaker weaker [] all = refl
  all_weaker weaker (x ∷ xs) all = grind (arith, all_weaker weaker xs)

  -- those who pass another test pass this one too
  pub all_left : (r : X → Bool) → ((x : X) → p x ≡ true → q x ≡ true → r x ≡ true) → (xs : List X)
      → list_all p xs ≡ true → list_all r (filter q xs) ≡ true
  all_left r both [] all = refl
  all_left r both (x ∷ xs) all = grind (arith, all_left r both xs)

-- two tests that say the same of all who pass a third one
pub any_alike : {X : Type 0} (k p q : X → Bool) → ((x : X) → k x ≡ true → p x ≡ q x) → (xs : List X)
    → list_all k xs ≡ true → list_any p xs ≡ list_any q xs
any_alike k p q alike [] all = refl
any_alike k p q alike (x ∷ xs) all = grind (arith, any_alike k p q alike xs)

-- a test, and what doesn't depend on the element
pub any_and : {X : Type 0} (p : X → Bool) (b : Bool) (xs : List X)
    → list_any (λ x. p x && b) xs ≡ (list_any p xs && b)
any_and p b [] = refl
any_and p b (x ∷ xs) = grind (arith, any_and p b xs)

pub any_map : {X Y : Type 0} (p : Y → Bool) (f : X → Y) (xs : List X)
    → list_any p (map f xs) ≡ list_any (λ x. p (f x)) xs
any_map p f [] = refl
any_map p f (x ∷ xs) = ap (λ r. p (f x) || r) (any_map p f xs)
