-- Numbers by variable, and the list of the variables in the order of their numbers.
use Rattle.{cnf_base.specs.Literals.has, numbering.specs.{Code.Numbers.number_or, Names.number_in}}
use Rattle.numbering.specs.Code.Numbers.{IsNumbering, counted_as, met_up_to, name_up_to, names_of}
use Rattle.std.proofs.Common.{List, Option, Some, [], add-one, ap, arith, cond, eq-eqb, eqb, false}
use Rattle.std.proofs.Common.{inl, inr, length, length-append, ne_eqb, refl, rules, slice_get, suc}
use Rattle.std.proofs.Common.{true, unwrap_or, zero, ℕ, ◌++◌, ◌+◌, ◌<◌, ◌∙◌, ◌∷◌, ◌≡◌, ◌≢◌, ◌≤◌}
use Rattle.std.proofs.lemmas.{Bool.{cases_eq, cases_lt, Decides.nat_tests}, Option.slice_get_past}

-- ---- A list of variables

number_unmet : (names : List ℕ) (v : ℕ) → has names v ≡ false → number_in names v ≡ 1 + length names
number_unmet [] v none = refl
number_unmet (n ∷ ns) v none = let e = number_unmet ns v in grind (arith, nat_tests)

number_most : (names : List ℕ) (v : ℕ) → number_or names v ≤ length names
number_most [] v = omega arith
number_most (n ∷ ns) v = let e = number_most ns v in grind (arith, nat_tests)

number_push : (names : List ℕ) (w v : ℕ) → has names w ≡ false → number_or (names ++ w ∷ []) v ≡ cond (eqb v w) (1 + length names) (number_or names v)
number_push [] w v none = grind (arith, nat_tests)
number_push (n ∷ ns) w v none = let e = number_push ns w v in grind (arith, nat_tests)

has_none : (names : List ℕ) (v : ℕ) → number_or names v ≡ 0 → has names v ≡ false
has_none names v none = grind (arith, nat_tests)

-- ---- Variables by their numbers

name_same : (f g : ℕ → ℕ) (n : ℕ) → ((v : ℕ) → eqb (g v) n ≡ eqb (f v) n) → (b : ℕ) → name_up_to g n b ≡ name_up_to f n b
unfolding name_up_to
name_same f g n same zero = refl
name_same f g n same (suc b) = search (rules, arith, (name_same f g n same b))

names_same : (f g : ℕ → ℕ) (count : ℕ) → ((n v : ℕ) → 1 ≤ n → n ≤ count → eqb (g v) n ≡ eqb (f v) n) → names_of g count ≡ names_of f count
unfolding names_of
names_same f g zero same = refl
names_same f g (suc n) same =
    ap (λ ns. ns ++ name_up_to g (suc n) 268435455 ∷ []) (names_same f g n (λ k v from to. same k v from (omega arith)))
    ∙ ap (λ v. names_of f n ++ v ∷ []) (name_same f g (suc n) (λ v. same (suc n) v (omega arith) (omega arith)) 268435455)

names_step : (f : ℕ → ℕ) (count : ℕ) → names_of f (count + 1) ≡ names_of f count ++ name_up_to f (count + 1) 268435455 ∷ []
unfolding names_of
names_step f count = rw add-one refl

names_length : (f : ℕ → ℕ) (count : ℕ) → length (names_of f count) ≡ count
unfolding names_of
names_length f zero = refl
names_length f (suc n) = let e = names_length f n in omega (arith, length-append (names_of f n) (name_up_to f (suc n) 268435455 ∷ []))

-- the one variable at which the number stands
name_is : (f : ℕ → ℕ) (n w : ℕ) → f w ≡ n → 1 ≤ w → ((v : ℕ) → f v ≡ n → v ≡ w) → (b : ℕ) → w ≤ b → name_up_to f n b ≡ w
unfolding name_up_to
name_is f n w here from one zero to = search rules
name_is f n w here from one (suc b) to =
    search (rules, arith, cases_eq, name_up_to, eq-eqb, ne_eqb, (name_is f n w here from one b))

-- ---- How many were met

met_same : (f g : ℕ → ℕ) (b : ℕ) → ((v : ℕ) → v ≤ b → g v ≡ f v) → met_up_to g b ≡ met_up_to f b
unfolding met_up_to
met_same f g zero same = refl
met_same f g (suc b) same =
    ap (λ m. m + counted_as (g (suc b))) (met_same f g b (λ v to. same v (omega arith)))
    ∙ ap (λ n. met_up_to f b + counted_as n) (same (suc b) (omega arith))

met_most : (f : ℕ → ℕ) (b : ℕ) → met_up_to f b ≤ b
unfolding met_up_to
met_most f zero = omega arith
met_most f (suc b) = let e = met_most f b in grind (arith, nat_tests)

met_below : (f : ℕ → ℕ) (w : ℕ) → f w ≡ 0 → 1 ≤ w → (b : ℕ) → w ≤ b → met_up_to f b < b
unfolding met_up_to
met_below f w none from zero to = search rules
met_below f w none from (suc b) to =
    search (rules, arith, cases_eq, met_most, nat_tests, (met_below f w none from b))

met_more : (f g : ℕ → ℕ) (w n : ℕ) → f w ≡ 0 → n ≢ 0 → 1 ≤ w → ((v : ℕ) → g v ≡ cond (eqb v w) n (f v)) → (b : ℕ) → w ≤ b → met_up_to g b ≡ met_up_to f b + 1
unfolding met_up_to
met_more f g w n none some from writes zero to = search rules
met_more f g w n none some from writes (suc b) to = elim (cases_eq w (suc b)) [
  | inl is ↦ search (rules, arith, met_same, to, ne_eqb, none, eq-eqb)
  | inr apart ↦ search (
    rules,
    arith,
    none,
    from,
    ne_eqb,
    (met_more f g w n none some from writes b (omega (arith, apart))),
  )
]

-- ---- The code's values

-- the number of a variable that stands among the first ones
pub number_near : (all : ℕ → Option ℕ) (near : List ℕ) → ((k : ℕ) → k < length near → slice_get near k ≡ all k) → (v n : ℕ) → n ≡ unwrap_or (slice_get near v) 0 → n ≢ 0 → unwrap_or (all v) 0 ≡ n
number_near all near is v n at some = search (rules, arith, cases_lt, unwrap_or, slice_get_past)

-- ---- A numbering

met_none : (f : ℕ → ℕ) → ((v : ℕ) → f v ≡ 0) → (b : ℕ) → met_up_to f b ≡ 0
unfolding met_up_to
met_none f none zero = refl
met_none f none (suc b) = cc ((none b), (none (suc b)), (met_none f none b))

pub numbering_empty : (f : ℕ → ℕ) → ((v : ℕ) → f v ≡ 0) → IsNumbering f 0
unfolding names_of
numbering_empty f none = search (rules, arith, met_none)

pub names_empty : (f : ℕ → ℕ) → names_of f 0 ≡ []
unfolding names_of
names_empty f = refl

module _ (f : ℕ → ℕ) (count : ℕ) (is : IsNumbering f count) where
  at_most : (v : ℕ) → f v ≤ count
  at_most v = search (rules, arith, number_most, names_of, names_length)

  pub is_unmet : (v : ℕ) → f v ≡ 0 → has (names_of f count) v ≡ false
  is_unmet v none = search rules

  pub is_met : (v : ℕ) → f v ≢ 0 → has (names_of f count) v ≡ true
  is_met v some = search rules

  pub unmet_at : (v : ℕ) → has (names_of f count) v ≡ false → f v ≡ 0
  unmet_at v none = search rules

  pub number_is : (v : ℕ) → f v ≢ 0 → number_in (names_of f count) v ≡ f v
  number_is v some = search rules

  pub next_is : (v : ℕ) → f v ≡ 0 → number_in (names_of f count) v ≡ count + 1
  next_is v none = search (rules, arith, number_unmet, names_length)

  pub count_most : count ≤ 268435455
  count_most = omega (arith, is.counted, met_most f 268435455)

  pub is_none : (v n : ℕ) → n ≡ f v → (1 ≤ n → n ≤ 268435455 → ⊥) → f v ≡ 0
  is_none v n is_at none = search (rules, arith, none, cases_eq, at_most, count_most)

  pub count_below : (v : ℕ) → f v ≡ 0 → 1 ≤ v → v ≤ 268435455 → count < 268435455
  count_below v none from to = omega (arith, is.counted, met_below f v none from 268435455 to)

  -- a new number
  module _ (g : ℕ → ℕ) (w : ℕ) (none : f w ≡ 0) (from : 1 ≤ w) (to : w ≤ 268435455) (writes : (v : ℕ) → g v ≡ cond (eqb v w) (count + 1) (f v)) where
    written : g w ≡ count + 1
    written = search rules

    one : (v : ℕ) → g v ≡ count + 1 → v ≡ w
    one v is_new = search (rules, at_most)

    same_number : (n v : ℕ) → 1 ≤ n → n ≤ count → eqb (g v) n ≡ eqb (f v) n
    same_number n v low high = search rules

    names_new : names_of g (count + 1) ≡ names_of f count ++ w ∷ []
    names_new = names_step g count
        ∙ ap (λ ns. ns ++ name_up_to g (count + 1) 268435455 ∷ []) (names_same f g count same_number)
        ∙ ap (λ v. names_of f count ++ v ∷ []) (name_is g (count + 1) w written from one 268435455 to)

    numbering_new : IsNumbering g (count + 1)
    numbering_new =
        let met = met_more f g w (count + 1) none (omega arith) from writes 268435455 to in
        search (rules, arith, names_length, number_push, is_unmet, names_new)

-- a variable that wasn't met has the next number: room is made, and the number is written
module _ (first room last : ℕ → Option ℕ) (count : ℕ) (is : IsNumbering (λ v. unwrap_or (first v) 0) count) (key w : ℕ) (w_is : key ≡ w) (range : (1 ≤ key) × (key ≤ 268435455)) (unmet : has (names_of (λ v. unwrap_or (first v) 0) count) w ≡ false)
    (same : (v : ℕ) → unwrap_or (room v) 0 ≡ unwrap_or (first v) 0) (writes : (v : ℕ) → last v ≡ cond (eqb v key) (Some (count + 1)) (room v)) where
  abbrev before : ℕ → ℕ
  before v = unwrap_or (first v) 0

  abbrev after : ℕ → ℕ
  after v = unwrap_or (last v) 0

  pub none : before w ≡ 0
  none = unmet_at before count is w unmet

  from : 1 ≤ w
  from = omega (arith, w_is, range.0)

  to : w ≤ 268435455
  to = omega (arith, w_is, range.1)

  pub wrote : (v : ℕ) → after v ≡ cond (eqb v w) (count + 1) (before v)
  wrote = search rules

  pub next_invariant : IsNumbering after (count + 1)
  next_invariant = numbering_new before count is after w none from to wrote

  pub next_names : names_of after (count + 1) ≡ names_of before count ++ w ∷ []
  next_names = names_new before count is after w none from to wrote

  pub next_low : count < 268435455
  next_low = count_below before count is w none from to

  pub next_at : after w ≡ count + 1
  next_at = search rules

  pub next_number : number_in (names_of after (count + 1)) w ≡ count + 1
  next_number = search (rules, arith, number_is, next_invariant, next_at)
