-- The literals that are true once those of a part of a clause are false.
use Rattle.cnf_base.proofs.{LiteralLemmas.complement-complement, MemberLemmas.variable-complement}
use Rattle.cnf_base.proofs.SetLemmas.{complements_has, filter_has, has-complements, has-filter}
use Rattle.cnf_base.proofs.SetLemmas.{has_append_cases, has_append_left, has_append_right}
use Rattle.cnf_base.{proofs.WalkLemmas.{has_push, has_take, is_in}, specs.Literals.Clause}
use Rattle.{cnf_base.specs.Literals.{Literal, complement, complements, has}, std.proofs.Common.Bool}
use Rattle.std.proofs.Common.{List, [], ap, append-nil, arith, cond, false, filter, get_or, inl}
use Rattle.std.proofs.Common.{inr, length, length-append, not, refl, sym, take, true, ℕ, ◌++◌, ◌+◌}
use Rattle.std.proofs.{Common.{◌<◌, ◌∙◌, ◌∷◌, ◌≡◌, ◌≤◌}, lemmas.List.{append_assoc, map-append}}
use Rattle.std.proofs.lemmas.List.{take_all, take_at, Elements.filter_more}
use Rattle.theory.proofs.PropagationLemmas.Conflicts.{conflict_from, conflicts_same, conflicts_some}
use Rattle.{theory.specs.Sets.{SameSet, conflicts}, trail.proofs.TrailLemmas.Truth.consistent}
use Rattle.trail.specs.{Trail.{HasNoVariableTwice, value_under}, declared.value.Value.Value}
use Rattle.trail.specs.declared.value.Value.TheVariants.{False}

pub no_conflict : (ls : List Literal) → HasNoVariableTwice ls → conflicts ls ≡ false
no_conflict ls apart = grind (arith, conflicts_some, consistent)

-- ---- The value of a literal

pub value_not_false : (ls : List Literal) (l : Literal) → HasNoVariableTwice ls → (v : Value)
    → v ≡ value_under ls l → (v ≡ False → ⊥) → false ≡ has ls (complement l)
value_not_false ls l apart v is other = grind (arith, consistent)

-- ---- Sets

pub same_pushed : (first second : List Literal) (m : Literal) → SameSet first second
    → SameSet (first ++ m ∷ []) (second ++ m ∷ [])
same_pushed first second m same l = grind (arith, has_push)

-- a literal that is there already
pub same_old : (first second : List Literal) (m : Literal) → SameSet first second
    → has first m ≡ true → SameSet first (second ++ m ∷ [])
same_old first second m same here l = grind (arith, has_push)

-- ---- One more true literal

module _ (first after : List Literal) (m : Literal) (is_open : Bool) (was : is_open ≡ not (has first m)) (is : after ≡ cond is_open (first ++ m ∷ []) first) where
  pub by_open : (P : List Literal → Type 0) → (has first m ≡ false → P (first ++ m ∷ []))
      → (has first m ≡ true → P first) → P after
  by_open P new old = grind arith

  pub made_true : SameSet after (first ++ m ∷ [])
  made_true = grind (arith, same_old)

  pub begins_made : take (length first) after ≡ first
  begins_made = grind (arith, take_at, take_all)

  pub longer_made : length first ≤ length after
  longer_made = grind (arith, length-append)

-- ---- One more literal of the clause

abbrev pub falsified : List Literal → (Literal → Bool) → Clause → List Literal
falsified ls keeps c = ls ++ complements (filter keeps c)

module _ (ls : List Literal) (keeps : Literal → Bool) (c : Clause) (i : ℕ) (inside : i < length c) (x : Literal) (is : x ≡ get_or c i x) where
  next_kept : (b : Bool) → keeps x ≡ b
      → filter keeps (take (i + 1) c) ≡ filter keeps (take i c) ++ cond b (x ∷ []) []
  next_kept b e = grind (arith, filter_more)

  pub falsified_next : keeps x ≡ true
      → falsified ls keeps (take (i + 1) c) ≡ falsified ls keeps (take i c) ++ complement x ∷ []
  falsified_next k =
      cc (next_kept true k, map-append complement (filter keeps (take i c)) (x ∷ []), append_assoc ls (complements (filter keeps (take i c))) (complement x ∷ []))

  pub falsified_same : keeps x ≡ false
      → falsified ls keeps (take (i + 1) c) ≡ falsified ls keeps (take i c)
  falsified_same k = cc (next_kept false k, append-nil _)

  -- x is true already
  pub falsified_conflict : keeps x ≡ true → (trues : List Literal)
      → SameSet trues (falsified ls keeps (take i c)) → has trues x ≡ true
      → true ≡ conflicts (falsified ls keeps c)
  falsified_conflict k trues same h =
      sym (conflict_from (falsified ls keeps c) x (within x (sym (same x) ∙ h))
      (grind (arith, has_append_right, has-complements, has-filter, is_in)))
    where
      part : (l : Literal) → has (filter keeps (take i c)) l ≡ true → has (filter keeps c) l ≡ true
      part l g = grind (arith, filter_has, has-filter, has_take)

      within : (l : Literal) → has (falsified ls keeps (take i c)) l ≡ true
          → has (falsified ls keeps c) l ≡ true
      within l g = elim (has_append_cases ls (complements (filter keeps (take i c))) l g) [
        | inl f ↦ has_append_left ls (complements (filter keeps c)) l f
        | inr f ↦ has_append_right ls (complements (filter keeps c)) l
            (cc (complement-complement l, has-complements (filter keeps c) (complement l) (part (complement l) (complements_has (filter keeps (take i c)) l f))))
      ]

-- the whole of a clause
pub whole_is : (c : Clause) → filter (λ l. true) c ≡ c
whole_is [] = refl
whole_is (l ∷ c) = ap (λ d. l ∷ d) (whole_is c)

pub whole_conflict : (ls : List Literal) (c : Clause)
    → conflicts (falsified ls (λ l. true) c) ≡ true → conflicts (ls ++ complements c) ≡ true
whole_conflict ls c h = cc (whole_is c)

pub whole_added : (after ls : List Literal) (c : Clause)
    → SameSet after (falsified ls (λ l. true) c) → SameSet after (ls ++ complements c)
whole_added after ls c same l = cc (same l, whole_is c)

-- at the start nothing is added
pub falsified_none : (ls : List Literal) (keeps : Literal → Bool) (c : Clause)
    → falsified ls keeps (take 0 c) ≡ ls
falsified_none ls keeps c = append-nil ls

pub ruleset false_steps = (is_in, variable-complement, complement-complement, take_all, conflicts_same)
