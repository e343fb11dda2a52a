-- What the literals of a trail say of others, and what they leave of a clause.
use Rattle.cnf_base.proofs.{LiteralLemmas.complement-other, MemberLemmas.{has_place, place_of}}
use Rattle.cnf_base.proofs.MemberLemmas.{place_of_variable, same_variable, variable-complement}
use Rattle.cnf_base.{proofs.WalkLemmas.has_more, specs.Literals.{Clause, Literal, complement, has}}
use Rattle.{cnf_base.specs.Literals.variable, std.proofs.Common.{List, arith, eqb, eqb-true, false}}
use Rattle.std.proofs.Common.{get_or, inl, inr, length, map, nat_eq, sym, take, true, ℕ, ◌+◌, ◌<◌}
use Rattle.std.proofs.{Common.{◌∙◌, ◌≡◌, ◌⊎◌}, lemmas.Bool.{false_from_ne_true, or_cases}}
use Rattle.std.proofs.lemmas.{Bool.true≢false, List.{get_or-map, length-map}}
use Rattle.std.proofs.lemmas.Map.Keys.{IsDistinct-from_apart, apart_from_distinct}
use Rattle.trail.specs.Trail.{HasNoVariableTwice, value_under}
use Rattle.trail.specs.declared.value.Value.TheVariants.{False, Open, True}

-- literals of one variable are equal
module _ (ls : List ℕ) (apart : HasNoVariableTwice ls) where
  pub places_apart : (i j : ℕ) → i < j → j < length ls
      → variable (get_or ls i 0) ≡ variable (get_or ls j 0) → ⊥
  places_apart i j low high e =
      let first : i < length ls = omega arith in
      let within : j < length (map variable ls) = omega (arith, length-map ls variable) in
      true≢false (sym (grind (arith, get_or-map))
      ∙ apart_from_distinct nat_eq (map variable ls) i j 0 apart low within)

  pub same_literal : (k l : ℕ) → has ls k ≡ true → has ls l ≡ true → variable k ≡ variable l → k ≡ l
  same_literal k l h g e = grind (arith, place_of, places_apart)

  pub consistent : (l : ℕ) → has ls l ≡ true → has ls (complement l) ≡ false
  consistent l h = grind (arith, complement-other, same_literal, variable-complement)

-- ---- Values

module _ (ls : List ℕ) (l : ℕ) where
  pub true_from_value : True ≡ value_under ls l → has ls l ≡ true
  true_from_value is = grind arith

  pub false_from_value : False ≡ value_under ls l → has ls (complement l) ≡ true
  false_from_value is = grind arith

  pub open_from_value : Open ≡ value_under ls l → (has ls l ≡ false)
      × (has ls (complement l) ≡ false)
  open_from_value is = grind arith

  pub value_is_open : has ls l ≡ false → has ls (complement l) ≡ false → value_under ls l ≡ Open
  value_is_open e f = cc

-- an open literal's variable is not set
pub variable_open : (ls : List ℕ) (l : ℕ) → has ls l ≡ false → has ls (complement l) ≡ false
    → has (map variable ls) (variable l) ≡ false
variable_open ls l e f =
    false_from_ne_true (has (map variable ls) (variable l))
    (λ h. let w = place_of_variable ls (variable l) h in let member = has_place ls w.0 w.1 in
    grind (arith, same_variable))

-- ---- One more literal of a clause

module _ (c : Clause) (i : ℕ) (inside : i < length c) (x : Literal) (is : x ≡ get_or c i x) where
  pub more_cases : (l : Literal) → has (take (i + 1) c) l ≡ true
      → (has (take i c) l ≡ true) ⊎ (x ≡ l)
  more_cases l h = elim (or_cases (has (take i c) l) (eqb x l) (sym (has_more c i inside x is l) ∙ h)) [ inl g ↦ inl g | inr e ↦ inr (eqb-true x l e) ]

-- places of different variables
pub HasNoVariableTwice-from_places : (ls : List ℕ)
    → ((i j : ℕ) → i < j → j < length ls → variable (get_or ls i 0) ≡ variable (get_or ls j 0) → ⊥)
    → HasNoVariableTwice ls
HasNoVariableTwice-from_places ls apart =
    IsDistinct-from_apart eqb (map variable ls)
    (λ i j d low high. let below : j < length ls = omega (arith, length-map ls variable) in
    let at_i = get_or-map variable ls i 0 d (omega arith) in
    let at_j = get_or-map variable ls j 0 d below in grind arith)
