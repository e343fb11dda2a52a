-- Lists of the variables that were met.
use Rattle.cnf_base.proofs.SetLemmas.{has_append_left, has_append_right, has_cases, has_head}
use Rattle.cnf_base.{proofs.SetLemmas.has_tail, specs.Literals.{Literal, has, variable}}
use Rattle.numbering.specs.Names.{name_in, number_in, with_name, with_names}
use Rattle.std.proofs.Common.{List, [], ap, arith, eq-eqb, eqb, false, inl, inr, length, map, refl}
use Rattle.std.proofs.Common.{rules, slice_index_or, sym, true, ℕ, ◌++◌, ◌<◌, ◌∙◌, ◌∷◌, ◌≡◌, ◌≢◌}
use Rattle.std.proofs.lemmas.{Bool.{cases_Bool, false≢true, or_parts}, List.map-append}
use Rattle.{std.specs.List.position_or_len, theory.specs.Renaming.renamed}

-- where a variable stands
abbrev place : List ℕ → ℕ → ℕ
place names v = position_or_len (λ w. eqb w v) names

place_inside : (names : List ℕ) (v : ℕ) → has names v ≡ true → (place names v < length names) × (slice_index_or names (place names v) 0 ≡ v)
place_inside [] v h = absurd (false≢true h)
place_inside (w ∷ names) v h =
    search (rules, arith, cases_Bool, slice_index_or, has_cases, false≢true, eq-eqb, (place_inside names))

place_outside : (names : List ℕ) (v : ℕ) → has names v ≡ false → place names v ≡ length names
place_outside [] v none = refl
place_outside (w ∷ names) v none = search (rules, arith, or_parts, (place_outside names))

place_kept : (names more : List ℕ) (v : ℕ) → has names v ≡ true → place (names ++ more) v ≡ place names v
place_kept [] more v h = absurd (false≢true h)
place_kept (w ∷ names) more v h = search (rules, arith, has_cases, eq-eqb, (place_kept names))

pub told : (names : List ℕ) (v : ℕ) → has names v ≡ true → name_in names (number_in names v) ≡ v
told names v h = search (rules, (place_inside names v h))

pub kept_number : (names : List ℕ) (v w : ℕ) → has names v ≡ true → number_in (with_name names w) v ≡ number_in names v
kept_number names v w h = search (rules, (place_kept names (w ∷ []) v h))

pub kept_has : (names : List ℕ) (v w : ℕ) → has names v ≡ true → has (with_name names w) v ≡ true
kept_has names v w h = search (rules, arith, has_append_left)

pub kept_has_all : (names : List ℕ) (v : ℕ) (lits : List Literal) → has names v ≡ true → has (with_names names lits) v ≡ true
kept_has_all names v [] h = h
kept_has_all names v (l ∷ lits) h = kept_has_all (with_name names (variable l)) v lits (kept_has names v (variable l) h)

pub kept_number_all : (names : List ℕ) (v : ℕ) (lits : List Literal) → has names v ≡ true → number_in (with_names names lits) v ≡ number_in names v
kept_number_all names v [] h = refl
kept_number_all names v (l ∷ lits) h =
    kept_number_all (with_name names (variable l)) v lits (kept_has names v (variable l) h) ∙ kept_number names v (variable l) h

pub has_new : (names : List ℕ) (w : ℕ) → has (with_name names w) w ≡ true
has_new names w = search (rules, arith, has_append_right, has_head)

pub has_new_all : (names : List ℕ) (lits : List Literal) (l : Literal) → has lits l ≡ true → has (with_names names lits) (variable l) ≡ true
has_new_all names [] l h = absurd (false≢true h)
has_new_all names (k ∷ lits) l h = elim (has_cases k lits l h) [
  | inl e ↦ search (rules, arith, kept_has_all, has_new)
  | inr g ↦ has_new_all (with_name names (variable k)) lits l g
]

pub next_is_not_given : (names : List ℕ) (v : ℕ) → has names v ≡ false → (w : ℕ) → has names w ≡ true → number_in names w ≢ number_in names v
next_is_not_given names v none w h e = omega (arith, place_inside, place_outside)

-- ---- One literal more

pub with_names_push : (names : List ℕ) (lits : List Literal) (l : Literal) → with_names names (lits ++ l ∷ []) ≡ with_name (with_names names lits) (variable l)
with_names_push names [] l = refl
with_names_push names (k ∷ lits) l = with_names_push (with_name names (variable k)) lits l

-- those before keep their numbers
pub renumbered : (names : List ℕ) (w : ℕ) (lits : List Literal) → ((l : Literal) → has lits l ≡ true → has names (variable l) ≡ true) → map (renamed (number_in (with_name names w))) lits ≡ map (renamed (number_in names)) lits
renumbered names w [] met = refl
renumbered names w (l ∷ lits) met =
    search (rules, arith, kept_number, has_head, has_tail, (renumbered names w lits))

pub numbered_push : (names : List ℕ) (lits : List Literal) (l m : Literal) (numbered : List Literal) → numbered ≡ map (renamed (number_in (with_names names lits))) lits → m ≡ renamed (number_in (with_names names (lits ++ l ∷ []))) l →
    numbered ++ m ∷ [] ≡ map (renamed (number_in (with_names names (lits ++ l ∷ [])))) (lits ++ l ∷ [])
numbered_push names lits l m numbered before is =
    let all = with_names names lits in
    let more = with_names names (lits ++ l ∷ []) in
    let kept = sym (renumbered all (variable l) lits (λ k h. has_new_all names lits k h)) ∙ ap (λ ns. map (renamed (number_in ns)) lits) (sym (with_names_push names lits l)) in
    (λ i. (before ∙ kept) i ++ is i ∷ [])
    ∙ sym (map-append (renamed (number_in more)) lits (l ∷ []))

-- one more where the variable was met
pub same_names : (names : List ℕ) (v : ℕ) → has names v ≡ true → with_name names v ≡ names
same_names names v h = search rules
