-- What the values by literal say of a trail.
use Rattle.cnf_base.proofs.LiteralLemmas.{complement-complement, complement-other}
use Rattle.cnf_base.proofs.MemberLemmas.{has_any, has_mapped, place_of, variable-complement}
use Rattle.cnf_base.proofs.SetLemmas.{has_append_cases, has_append_left, has_append_right}
use Rattle.cnf_base.proofs.{SetLemmas.has_cases, SizeLemmas.size_covered, WalkLemmas.has_push}
use Rattle.{cnf_base.specs.Literals.{complement, has, size, variable}, std.proofs.Common.Bool}
use Rattle.std.proofs.Common.{List, None, Option, Some, [], ap, arith, cond, drop, eq-eqb, eqb}
use Rattle.std.proofs.Common.{eqb-true, false, get_or, inl, inr, is_some, length, length-append}
use Rattle.std.proofs.Common.{map, nat_eq, refl, subst, sym, take, true, ℕ, ◌*◌, ◌++◌, ◌+◌, ◌-◌}
use Rattle.std.proofs.{Common.{◌<◌, ◌||◌, ◌∙◌, ◌∷◌, ◌≡◌, ◌≤◌, ◌⊎◌}, lemmas.Bool.false_from_ne_true}
use Rattle.std.proofs.lemmas.{Bool.{false≢true, or_cases}, List.get_or-append_right}
use Rattle.std.proofs.lemmas.List.{get_or_append_left, length-drop, length-map, map-append}
use Rattle.std.proofs.lemmas.{List.{take-append-drop, take_all}, Map.Keys.IsDistinct-push}
use Rattle.std.{proofs.lemmas.Map.Made.length-le_from_is_member, specs.Cmp.nat_eq_equiv}
use Rattle.{std.specs.List.{AllByRecursion, IsDistinct}, tables.specs.ByKey.{HaveRoom, is_of}}
use Rattle.trail.proofs.TrailLemmas.Truth.{HasNoVariableTwice-from_places, open_from_value}
use Rattle.trail.{proofs.TrailLemmas.Truth.{places_apart, variable_open}, specs.Code.Values.IsTrail}
use Rattle.trail.specs.{Code.Values.{Opens, known_value}, Trail.{HasNoVariableTwice, value_under}}
use Rattle.trail.specs.declared.value.Value.{Value, TheVariants.{False, Open, True}}

abbrev Values : Type 0
Values = ℕ → Option Value

pub value_by_tests : (lits : List ℕ) (l : ℕ) (a b : Bool) → has lits l ≡ a
    → has lits (complement l) ≡ b → value_under lits l ≡ cond a True (cond b False Open)
value_by_tests lits l a b p q = rw (p, q) refl

-- ---- One more literal at the end

module _ (lits : List ℕ) (l : ℕ) (is_open : value_under lits l ≡ Open) where
  tests : (has lits l ≡ false) × (has lits (complement l) ≡ false)
  tests = open_from_value lits l (sym is_open)

  pub value_pushed : (k : ℕ) → value_under (lits ++ l ∷ []) k
      ≡ cond (eqb k (complement l)) False (cond (eqb k l) True (value_under lits k))
  value_pushed k = grind (arith, has_push, complement-other, complement-complement)

  pub different_pushed : HasNoVariableTwice lits → HasNoVariableTwice (lits ++ l ∷ [])
  different_pushed different =
      subst (IsDistinct nat_eq) (sym (map-append variable lits (l ∷ [])))
      (IsDistinct-push nat_eq_equiv (map variable lits) (variable l) different
      (sym (has_any (map variable lits) (variable l)) ∙ variable_open lits l tests.0 tests.1))

-- ---- The last literals taken off

-- all but the first ones follow them
front_and_rest : (ls : List ℕ) (n : ℕ) → ls ≡ take n ls ++ take (length ls - n) (drop n ls)
front_and_rest ls n = grind (arith, take_all, length-drop, take-append-drop)

module _ (front rest : List ℕ) (different : HasNoVariableTwice (front ++ rest)) where
  pub different_front : HasNoVariableTwice front
  different_front =
      grind (arith, HasNoVariableTwice-from_places, length-append, places_apart, get_or_append_left)

  -- what one of the last ones says, none before says
  lacks : (l k : ℕ) → has rest l ≡ true → variable k ≡ variable l → has front k ≡ false
  lacks l k last same =
      false_from_ne_true (has front k) (λ h. let w = place_of front k h in
      let u = place_of rest l last in let low = w.1 in let high = u.1 in
      let e = length-append front rest in
      places_apart (front ++ rest) different w.0 (length front + u.0) (omega arith)
      (omega (arith, e)) (ap variable (get_or_append_left front rest 0 w.0 low ∙ w.2) ∙ same
      ∙ sym (ap variable (get_or-append_right front rest (length front) (length front + u.0)
      0 refl (omega arith) ∙ ap (λ i. get_or rest i 0) (omega arith) ∙ u.2))))

  pub value_front : (k : ℕ) → value_under front k
      ≡ cond (has rest k || has rest (complement k)) Open (value_under (front ++ rest) k)
  value_front k = grind (arith, has_append_cases, has_append_left, lacks, variable-complement)

-- ---- The invariant

distinct_size : (vs : List ℕ) → IsDistinct nat_eq vs → size vs ≡ length vs
unfolding IsDistinct
distinct_size [] apart = refl
distinct_size (v ∷ vs) apart = grind (arith, absent, distinct_size vs apart.1)
  where
    absent : (vs : List ℕ) → AllByRecursion (λ w. nat_eq v w ≡ false) vs → has vs v ≡ false
    absent [] all = refl
    absent (w ∷ vs) all = false_from_ne_true (has (w ∷ vs) v) (λ h. elim (has_cases w vs v h) [
      | inl e ↦ false≢true (sym all.0 ∙ eq-eqb v w (sym e))
      | inr g ↦ false≢true (sym (absent vs all.1) ∙ g)
    ])

-- there are at most as many literals as different variables
pub fits_different : (lits reserved : List ℕ) → HasNoVariableTwice lits
    → ((v : ℕ) → has (map variable lits) v ≡ true → has reserved v ≡ true)
    → length lits ≤ size reserved
fits_different lits reserved different within =
    grind (arith, size_covered, distinct_size, length-map)

-- where no variable is there twice, there are at most as many literals as variables
pub fits_within : (lits reserved : List ℕ) → HasNoVariableTwice lits
    → ((v : ℕ) → has (map variable lits) v ≡ true → has reserved v ≡ true)
    → length lits ≤ length reserved
fits_within lits reserved different within =
    let most = length-le_from_is_member nat_eq_equiv (map variable lits) reserved different
    (λ v h. sym (has_any reserved v) ∙ within v (has_any (map variable lits) v ∙ h)) in
    grind (arith, length-map)

pub trail_empty : (lits reserved : List ℕ) (capacity : ℕ) (seen : ℕ → Bool)
    (value_of : Values) → lits ≡ [] → reserved ≡ [] → ((v : ℕ) → seen v ≡ false)
    → ((k : ℕ) → value_of k ≡ None) → IsTrail lits reserved capacity seen value_of
unfolding IsDistinct
trail_empty lits reserved capacity seen value_of no_lits none_met none_seen none = grind arith

-- the positive literal's complement
pub negative_key : (v l : ℕ) → l ≡ 2 * v → complement l ≡ 2 * v + 1
unfolding complement
negative_key v l e = grind arith

-- two writes, of both literals of a variable that has values
module _ (l : ℕ) (a b : Value) (value_of first after : Values)
    (writes_one : (k : ℕ) → first k ≡ cond (eqb k l) (Some a) (value_of k))
    (writes_other : (k : ℕ) → after k ≡ cond (eqb k (complement l)) (Some b) (first k)) where
  written : (k : ℕ) → after k ≡ cond (eqb k (complement l)) (Some b)
      (cond (eqb k l) (Some a) (value_of k))
  written k = grind arith

  pub written_value : (k : ℕ) → known_value (after k)
      ≡ cond (eqb k (complement l)) b (cond (eqb k l) a (known_value (value_of k)))
  written_value k = grind arith

  pub written_some : is_some (value_of l) ≡ true → is_some (value_of (complement l)) ≡ true
      → (k : ℕ) → is_some (after k) ≡ is_some (value_of k)
  written_some one other k = grind arith

within_pushed : (lits reserved : List ℕ) (l : ℕ) → ((v : ℕ) → has (map variable lits) v ≡ true → has reserved v ≡ true) → has reserved (variable l) ≡ true → (v : ℕ) → has (map variable (lits ++ l ∷ [])) v ≡ true → has reserved v ≡ true
within_pushed lits reserved l within here v h = grind (arith, has_push, map-append)

module _ (lits reserved : List ℕ) (capacity : ℕ) (seen : ℕ → Bool) (value_of : Values) (trail : IsTrail lits reserved capacity seen value_of) where
  -- there is more room, for literals and for values
  pub trail_wider : (more : ℕ) (seen_too : ℕ → Bool) (after : Values) → capacity ≤ more
      → ((v : ℕ) → seen_too v ≡ seen v)
      → ((k : ℕ) → known_value (after k) ≡ known_value (value_of k))
      → ((k : ℕ) → is_some (value_of k) ≡ true → is_some (after k) ≡ true)
      → IsTrail lits reserved more seen_too after
  trail_wider more seen_too after wide same_seen same kept = grind arith

  -- one more variable is reserved
  module _ (v : ℕ) (reserved_too : List ℕ) (seen_too : ℕ → Bool) (adds : (w : ℕ) → has reserved_too w ≡ (has reserved w || eqb v w))
      (noted : (w : ℕ) → seen_too w ≡ has reserved_too w) (room : length reserved_too ≤ capacity)
      (positive : is_some (value_of (2 * v)) ≡ true) (negative : is_some (value_of (2 * v + 1)) ≡ true) where
    of_v : (l : ℕ) → variable l ≡ v → (l ≡ 2 * v) ⊎ (l ≡ 2 * v + 1)
    of_v l e = grind arith

    known_both : (l : ℕ) → has reserved_too (variable l) ≡ true → is_some (value_of l) ≡ true
    known_both l h = elim (or_cases (has reserved (variable l)) (eqb v (variable l)) (sym (adds (variable l)) ∙ h)) [
      | inl old ↦ trail.known l old
      | inr new ↦ elim (of_v l (sym (eqb-true v (variable l) new))) [
        | inl even ↦ ap (λ k. is_some (value_of k)) even ∙ positive
        | inr odd ↦ ap (λ k. is_some (value_of k)) odd ∙ negative
      ]
    ]

    pub trail_reserved : IsTrail lits reserved_too capacity seen_too value_of
    trail_reserved = grind (arith, known_both)

  -- each literal's variable was reserved, and no variable is there twice, so that there is room for one more where it is open
  pub room_for : (l : ℕ) → value_under lits l ≡ Open → has reserved (variable l) ≡ true
      → length lits < capacity
  room_for l is_open here =
      grind (arith, fits_within (lits ++ l ∷ []) reserved (different_pushed lits l is_open trail.different) (within_pushed lits reserved l trail.within here), length-append lits (l ∷ []))

  -- both literals of a variable that was reserved have a value
  pub both_known : (l : ℕ) → has reserved (variable l) ≡ true → (is_some (value_of l) ≡ true)
      × (is_some (value_of (complement l)) ≡ true)
  both_known l here = grind (arith, variable-complement)

  module _ (l : ℕ) (is_open : value_under lits l ≡ Open) (here : has reserved (variable l) ≡ true) (first after : Values)
      (makes_true : (k : ℕ) → first k ≡ cond (eqb k l) (Some True) (value_of k))
      (makes_false : (k : ℕ) → after k ≡ cond (eqb k (complement l)) (Some False) (first k)) where
    pub trail_set : IsTrail (lits ++ l ∷ []) reserved capacity seen after
    trail_set = grind (arith, different_pushed, within_pushed, value_pushed)

module _ (front rest reserved : List ℕ) (capacity : ℕ) (seen : ℕ → Bool) (value_of : Values) (trail : IsTrail (front ++ rest) reserved capacity seen value_of) where
  -- both literals of each variable that was set have a value
  pub last_known : (l : ℕ) → has rest l ≡ true → (is_some (value_of l) ≡ true)
      × (is_some (value_of (complement l)) ≡ true)
  last_known l h =
      grind (arith, both_known (front ++ rest) reserved capacity seen value_of trail l (trail.within (variable l) (has_mapped (front ++ rest) l (has_append_right front rest l h))))

  module _ (after : Values) (known : (k : ℕ) → is_some (after k) ≡ is_some (value_of k))
      (opened : (k : ℕ) → known_value (after k) ≡ cond (has rest k || has rest (complement k)) Open (known_value (value_of k))) where
    pub trail_taken : IsTrail front reserved capacity seen after
    trail_taken = grind (arith, different_front, map-append, has_append_left, value_front)

-- the trail as what stays and what is taken back
pub trail_cut : (lits shown reserved : List ℕ) (capacity : ℕ) (seen : ℕ → Bool)
    (value_of : Values) → shown ≡ lits → IsTrail lits reserved capacity seen value_of → (n : ℕ)
    → IsTrail (take n shown ++ take (length shown - n) (drop n shown))
    reserved capacity seen value_of
trail_cut lits shown reserved capacity seen value_of same trail n = grind (arith, front_and_rest)

-- ---- Literals made open

pub opens : (lits : List ℕ) (before after : Values) → HaveRoom before lits
    → ((k : ℕ) → after k ≡ cond (is_of lits k) (Some Open) (before k)) → Opens before after lits
opens lits before after room written = grind (arith, complement-complement)
