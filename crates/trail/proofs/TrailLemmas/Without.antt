-- A trail from which one literal was taken out.
use Rattle.cnf_base.proofs.{LiteralLemmas.complement-complement, MemberLemmas.variable-complement}
use Rattle.cnf_base.proofs.MemberLemmas.{has_front, has_mapped, has_place, has_variable}
use Rattle.cnf_base.proofs.MemberLemmas.{place_in_front, place_of, place_of_variable}
use Rattle.{cnf_base.specs.Literals.complement, trail.specs.Trail.{HasNoVariableTwice, value_under}}
use Rattle.{cnf_base.specs.Literals.{has, variable}, trail.proofs.TrailLemmas.Truth.value_is_open}
use Rattle.std.proofs.Common.{Bool, List, Option, Some, ap, arith, cond, eq-eqb, eqb, false, get_or}
use Rattle.std.proofs.Common.{inl, inr, is_some, length, map, refl, subst, sym, take, true, ℕ, ◌+◌}
use Rattle.std.{proofs.Common.{◌-◌, ◌<◌, ◌∙◌, ◌≡◌, ◌≢◌, ◌≤◌, ◌⊎◌}, specs.List.remove}
use Rattle.std.proofs.lemmas.Bool.{cases_eq, cases_lt, false_from_ne_true, ne_eqb}
use Rattle.std.proofs.lemmas.List.Edits.{get_or-remove_above, get_or-remove_below, length-remove}
use Rattle.trail.proofs.TrailLemmas.Truth.{HasNoVariableTwice-from_places, places_apart}
use Rattle.trail.proofs.TrailLemmas.Values.{both_known, value_by_tests, written_some, written_value}
use Rattle.trail.specs.{Code.Values.IsTrail, declared.value.Value.{Value, TheVariants.Open}}

-- a place now and the same one before: those before the one that was taken out stay, those behind
-- were one further
abbrev pub IsMoved : ℕ → ℕ → ℕ → Type 0
IsMoved place now before = ((before ≡ now) × (now < place)) ⊎ ((before ≡ now + 1) × (place ≤ now))

-- how many literals stood in front, where so many stand there now
abbrev pub IsFront : ℕ → ℕ → ℕ → Type 0
IsFront place now before = ((before ≡ now) × (now ≤ place)) ⊎ ((before ≡ now + 1) × (place ≤ now))

pub front_before : (place now : ℕ) → (before : ℕ) × IsFront place now before
front_before place now = elim (cases_lt now place) [
  | inl low ↦ (now, inl (refl, omega (arith, low)))
  | inr past ↦ (now + 1, inr (refl, past))
]

module _ (place i a j b : ℕ) (first : IsMoved place i a) (second : IsMoved place j b) (low : i < j) where
  in_order : a < b
  in_order = omega arith

module _ (lits : List ℕ) (place : ℕ) (inside : place < length lits) where
  abbrev out : List ℕ
  out = remove lits place

  moved : (i : ℕ) → (j : ℕ) × (get_or out i 0 ≡ get_or lits j 0) × IsMoved place i j
  moved i = elim (cases_lt i place) [
    | inl low ↦ (i, get_or-remove_below lits place 0 i low inside, inl (refl, low))
    | inr past ↦ (i + 1, get_or-remove_above lits place 0 i past inside, inr (refl, past))
  ]

  within_before : (i j : ℕ) → IsMoved place i j → i < length out → j < length lits
  within_before i j is low = grind (arith, length-remove)

  pub different_out : HasNoVariableTwice lits → HasNoVariableTwice out
  different_out different =
      HasNoVariableTwice-from_places out (λ i j low high same. let a = moved i in let b = moved j in
      places_apart lits different a.0 b.0 (in_order place i a.0 j b.0 a.2 b.2 low)
      (within_before j b.0 b.2 high) (ap variable (sym a.1) ∙ same ∙ ap variable b.1))

  -- what stands in front now stood there before
  pub front_was : (now before : ℕ) → IsFront place now before → (k : ℕ)
      → has (take now out) k ≡ true → has (take before lits) k ≡ true
  front_was now before front k h =
      let w = place_in_front out now k h in let m = moved w.0 in let low = w.1 in
      subst (λ x. has (take before lits) x ≡ true) (sym m.1 ∙ w.3)
      (has_front lits before m.0 (closer w.0 m.0 low m.2) (within_before w.0 m.0 m.2 w.2))
    where
      closer : (i j : ℕ) → i < now → IsMoved place i j → j < before
      closer i j low is = grind arith

  pub was_there : (k : ℕ) → has out k ≡ true → has lits k ≡ true
  was_there k h =
      let w = place_of out k h in let m = moved w.0 in
      subst (λ x. has lits x ≡ true) (sym m.1 ∙ w.2)
      (has_place lits m.0 (within_before w.0 m.0 m.2 w.1))

  module _ (l : ℕ) (stands : get_or lits place 0 ≡ l) where
    -- where one stands now that stood elsewhere
    moved_down : (i : ℕ) → i < length lits → get_or lits i 0 ≢ l → (j : ℕ)
        × (get_or out j 0 ≡ get_or lits i 0) × IsMoved place j i × (j < length out)
    moved_down i low other = let n = length-remove lits place inside in elim (cases_lt i place) [
      | inl before ↦ grind (arith, get_or-remove_below)
      | inr past ↦ elim (cases_eq i place) [
        | inl same ↦ absurd (other (ap (λ x. get_or lits x 0) same ∙ stands))
        | inr ne ↦
            let back : i - 1 + 1 ≡ i = omega (arith, past, ne) in
            grind (arith, get_or-remove_above)
      ]
    ]

    pub front_still : (now before : ℕ) → IsFront place now before → (k : ℕ)
        → has (take before lits) k ≡ true → k ≢ l → has (take now out) k ≡ true
    front_still now before front k h ne = grind (arith, place_in_front, moved_down, has_front)

    pub still_there : (k : ℕ) → has lits k ≡ true → k ≢ l → has out k ≡ true
    still_there k h ne = grind (arith, place_of, moved_down, has_place)

    module _ (different : HasNoVariableTwice lits) where
      -- no literal of its variable is left
      pub none_left : (k : ℕ) → variable k ≡ variable l → has out k ≡ false
      none_left k same = false_from_ne_true (has out k) (λ h.
          let w = place_of out k h in let m = moved w.0 in
          let alike = ap variable (sym m.1 ∙ w.2) ∙ same ∙ ap variable (sym stands) in
          elim m.2 [
            | inl s ↦ grind (arith, places_apart)
            | inr s ↦ let e = s.0 in let past = s.1 in places_apart lits different place m.0 (omega (arith, e, past)) (within_before w.0 m.0 m.2 w.1) (sym alike)
          ])

      same_else : (k : ℕ) → k ≢ l → has out k ≡ has lits k
      same_else k ne = grind (arith, was_there, still_there)

      value_out : (k : ℕ) → value_under out k
          ≡ cond (eqb k (complement l)) Open (cond (eqb k l) Open (value_under lits k))
      value_out k = elim (cases_eq k (complement l)) [
        | inl same ↦ grind (arith, value_is_open, none_left, variable-complement, eq-eqb)
        | inr other ↦ elim (cases_eq k l) [
          | inl here ↦ grind (arith, value_is_open, none_left, variable-complement, ne_eqb, eq-eqb)
          | inr apart ↦
              value_by_tests out k (has lits k) (has lits (complement k)) (same_else k apart) (same_else (complement k) (λ e. other (sym (complement-complement k) ∙ ap complement e)))
              ∙ sym (grind (arith, ne_eqb))
        ]
      ]

    module _ (reserved : List ℕ) (capacity : ℕ) (seen : ℕ → Bool) (value_of : ℕ → Option Value) (trail : IsTrail lits reserved capacity seen value_of) where
      pub out_known : (is_some (value_of l) ≡ true) × (is_some (value_of (complement l)) ≡ true)
      out_known = both_known lits reserved capacity seen value_of trail l (grind (arith, has_mapped, has_place))

      module _ (first after : ℕ → Option Value) (opens_one : (k : ℕ) → first k ≡ cond (eqb k l) (Some Open) (value_of k)) (opens_other : (k : ℕ) → after k ≡ cond (eqb k (complement l)) (Some Open) (first k)) where
        pub trail_out : IsTrail out reserved capacity seen after
        trail_out = record {
          different = different_out trail.different;
          within = λ v h. let w = place_of_variable out v h in let m = moved w.0 in
              trail.within v (subst (λ x. has (map variable lits) x ≡ true)
              (ap variable (sym m.1) ∙ w.2)
              (has_variable lits m.0 (within_before w.0 m.0 m.2 w.1)));
          fits = trail.fits;
          noted = trail.noted;
          known = grind (arith, written_some);
          values = grind (arith, written_value, value_out);
        }
