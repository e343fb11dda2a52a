-- The variables that were reserved, read off a table by variable.
use Rattle.{cnf_base.specs.Literals.has, std.proofs.Common.true, trail.specs.Code.Values.seen_up_to}
use Rattle.std.proofs.Common.{Bool, [], arith, cond, eqb, false, length, nat_le, refl, rules, suc}
use Rattle.std.proofs.{Common.{zero, ℕ, ◌&&◌, ◌+◌, ◌||◌, ◌≡◌, ◌≤◌}, lemmas.Bool.Decides.nat_tests}

module _ (seen : ℕ → Bool) where
  pub seen_has : (n v : ℕ) → has (seen_up_to seen n) v
      ≡ ((nat_le 1 v && nat_le v n) && seen v)
  unfolding seen_up_to
  seen_has zero v = grind (arith, nat_tests)
  seen_has (suc n) v = search (rules, seen_has n v)

module _ (seen seen_too : ℕ → Bool) where
  pub seen_same : ((v : ℕ) → seen_too v ≡ seen v) → (n : ℕ)
      → seen_up_to seen_too n ≡ seen_up_to seen n
  unfolding seen_up_to
  seen_same same zero = refl
  seen_same same (suc n) = grind (arith, seen_same same n)

  module _ (v : ℕ) (none : seen v ≡ false) (from : 1 ≤ v)
      (puts : (k : ℕ) → seen_too k ≡ cond (eqb k v) true (seen k)) where
    below : (n : ℕ) → suc n ≤ v → length (seen_up_to seen_too n) ≡ length (seen_up_to seen n)
    unfolding seen_up_to
    below zero to = refl
    below (suc n) to = grind (arith, below n)

    pub seen_more : (n : ℕ) → v ≤ n
        → length (seen_up_to seen_too n) ≡ length (seen_up_to seen n) + 1
    unfolding seen_up_to
    seen_more zero to = absurd (let wrong : ⊥ = omega arith in wrong)
    seen_more (suc n) to = grind (arith, seen_more n, below)

-- a table without a variable, then with one
pub seen_none : (seen : ℕ → Bool) → ((v : ℕ) → seen v ≡ false) → (n : ℕ)
    → seen_up_to seen n ≡ []
unfolding seen_up_to
seen_none seen none zero = refl
seen_none seen none (suc n) = cc (none (suc n), seen_none seen none n)

module _ (seen seen_too : ℕ → Bool) (n v : ℕ) (from : 1 ≤ v) (to : v ≤ n)
    (puts : (k : ℕ) → seen_too k ≡ cond (eqb k v) true (seen k)) where
  -- the variable is among those that were there
  pub seen_adds : (w : ℕ) → has (seen_up_to seen_too n) w ≡ (has (seen_up_to seen n) w || eqb v w)
  seen_adds w = search (rules, seen_has)

  -- what stands in the table is among them
  pub seen_noted : ((w : ℕ) → seen w ≡ has (seen_up_to seen n) w) → (w : ℕ)
      → seen_too w ≡ has (seen_up_to seen_too n) w
  seen_noted noted w = grind (arith, seen_adds w)
