-- Clauses under a map of literals that another map undoes.
use Rattle.cnf_base.proofs.SetLemmas.{filter_has, has_append_cases, has_cases, has_head, has_tail}
use Rattle.cnf_base.specs.Literals.{Clause, Literal, complement, complements, has, same_clause}
use Rattle.{cnf_base.specs.Literals.without, std.proofs.Common.{Bool, List, Some, [], arith, drop}}
use Rattle.std.proofs.Common.{eqb, filter, map, refl, rules, suc, take, true, ℕ, ◌++◌, ◌∷◌, ◌≡◌}
use Rattle.std.{proofs.lemmas.Bool.false≢true, specs.List.{list_all, list_any}}
use Rattle.theory.specs.{Propagation.{Live, open_literals}, Sets.conflicts}

-- each literal of the list is one of these
abbrev pub AreAmong : (Literal → Type 0) → List Literal → Type 0
AreAmong among c = (l : Literal) → has c l ≡ true → among l

-- and so is each of the live clauses
abbrev pub LiveAmong : (Literal → Type 0) → Live → Type 0
LiveAmong among live = (k : ℕ) (c : Clause) → live k ≡ Some c → AreAmong among c

module _ (f : Literal → Literal) where
  pub has_mapped : (c : Clause) (l : Literal) → has c l ≡ true → has (map f c) (f l) ≡ true
  has_mapped [] l h = absurd (false≢true h)
  has_mapped (k ∷ c) l h = grind (arith, has_cases, has_head, has_tail, (has_mapped c l))

  pub mapped_has : (c : Clause) (m : Literal) → has (map f c) m ≡ true
      → (l : Literal) × (has c l ≡ true) × (f l ≡ m)
  mapped_has [] m h = absurd (false≢true h)
  mapped_has (k ∷ c) m h = grind (arith, has_cases, has_head, has_tail, (mapped_has c m))

  -- tests that agree on the literals of a list
  module _ (p q : Literal → Bool) where
    pub filter_mapped : (c : Clause) → ((l : Literal) → has c l ≡ true → q (f l) ≡ p l)
        → filter q (map f c) ≡ map f (filter p c)
    filter_mapped [] agree = refl
    filter_mapped (k ∷ c) agree =
        search (rules, has_head, has_tail, (filter_mapped c (λ l h. agree l (has_tail k c l h))))

    pub any_mapped : (c : Clause) → ((l : Literal) → has c l ≡ true → q (f l) ≡ p l)
        → list_any q (map f c) ≡ list_any p c
    any_mapped [] agree = refl
    any_mapped (k ∷ c) agree =
        search (rules, has_head, has_tail, (any_mapped c (λ l h. agree l (has_tail k c l h))))

    pub all_mapped : (c : Clause) → ((l : Literal) → has c l ≡ true → q (f l) ≡ p l)
        → list_all q (map f c) ≡ list_all p c
    all_mapped [] agree = refl
    all_mapped (k ∷ c) agree =
        search (rules, has_head, has_tail, (all_mapped c (λ l h. agree l (has_tail k c l h))))

-- One map undoes the other on these literals. Complements go to complements.
pub record Renames (there back : Literal → Literal) (among : Literal → Type 0) : Type 0 where
  pub commutes : (l : Literal) → complement (there l) ≡ there (complement l)
  pub opposite : (l : Literal) → among l → among (complement l)
  pub undone : (l : Literal) → among l → back (there l) ≡ l

-- what one of these goes to
abbrev pub GoesTo : (Literal → Literal) → (Literal → Type 0) → Literal → Type 0
GoesTo there among m = (l : Literal) × among l × (there l ≡ m)

pub reversed : (there back : Literal → Literal) (among : Literal → Type 0) → Renames there back among → ((l : Literal) → complement (back l) ≡ back (complement l)) → Renames back there (GoesTo there among)
reversed there back among r commutes = search rules

module _ (there back : Literal → Literal) (among : Literal → Type 0) (r : Renames there back among)
  where
    pub equal_is : (k l : Literal) → among k → among l → eqb (there k) (there l) ≡ eqb k l
    equal_is k l a b = search rules

    pub has_is : (c : Clause) → AreAmong among c → (l : Literal) → among l
        → has (map there c) (there l) ≡ has c l
    has_is c within l a = search (rules, any_mapped, equal_is)

    pub back_there : (c : Clause) → AreAmong among c → map back (map there c) ≡ c
    back_there [] within = refl
    back_there (k ∷ c) within = λ i. r.undone k (search rules) i ∷ back_there c (search rules) i

    pub complements_mapped : (c : Clause) → complements (map there c) ≡ map there (complements c)
    complements_mapped [] = refl
    complements_mapped (k ∷ c) = λ i. r.commutes k i ∷ complements_mapped c i

    pub mapped_among : (c : Clause) → AreAmong among c → AreAmong (GoesTo there among) (map there c)
    mapped_among c within m h = let w = mapped_has there c m h in (w.0, within w.0 w.1, w.2)

    pub without_mapped : (c : Clause) → AreAmong among c → (x : Literal) → among x
        → without (map there c) (there x) ≡ map there (without c x)
    without_mapped c within x a = search (rules, filter_mapped, equal_is)

    -- whether a list has a literal's complement
    pub has_opposite : (ls : List Literal) → AreAmong among ls → (l : Literal) → among l
        → has (map there ls) (complement (there l)) ≡ has ls (complement l)
    has_opposite ls within l a = search (rules, has_is)

    pub open_mapped : (ls : List Literal) (c : Clause) → AreAmong among ls → AreAmong among c
        → open_literals (map there ls) (map there c) ≡ map there (open_literals ls c)
    open_mapped ls c ls_within within = search (rules, filter_mapped, has_opposite)

    pub conflicts_mapped : (ls : List Literal) → AreAmong among ls → conflicts (map there ls)
        ≡ conflicts ls
    conflicts_mapped ls within = search (rules, any_mapped, has_opposite)

    pub same_mapped : (c d : Clause) → AreAmong among c → AreAmong among d
        → same_clause (map there c) (map there d) ≡ same_clause c d
    same_mapped c d c_within d_within = search (rules, all_mapped, has_is)

    -- ---- What is among these

    pub complements_among : (c : Clause) → AreAmong among c → AreAmong among (complements c)
    complements_among c within m h = search (rules, mapped_has)

    pub filter_among : (p : Literal → Bool) (c : Clause) → AreAmong among c
        → AreAmong among (filter p c)
    filter_among p c within l h = within l (filter_has p c l h).0

    pub append_among : (c d : Clause) → AreAmong among c → AreAmong among d → AreAmong among (c ++ d)
    append_among c d c_within d_within l h = search (rules, has_append_cases)

pub take_has : (n : ℕ) (c : List Literal) (l : Literal) → has (take n c) l ≡ true → has c l ≡ true
take_has (suc n) (k ∷ c) l h = grind (arith, has_cases, has_head, has_tail, (take_has n c l))
take_has n c l h = grind arith

pub drop_has : (n : ℕ) (c : List Literal) (l : Literal) → has (drop n c) l ≡ true → has c l ≡ true
drop_has (suc n) (k ∷ c) l h = has_tail k c l (drop_has n c l h)
drop_has n c l h = grind arith
