-- Chains, through a change of links.
use Rattle.clause_index.specs.{Code.Chains.{AreLinked, home, link_at}, declared.link.Link.Link}
use Rattle.cnf_base.{proofs.SetLemmas.{has_head, without_has}, specs.Literals.{has, size, without}}
use Rattle.cnf_base.proofs.SizeLemmas.{distinct_parts, size_covered, size_le_length, without_absent}
use Rattle.std.proofs.Common.{List, [], ap, arith, length, refl, suc, true, zero, ℕ, ◌<◌, ◌∷◌, ◌≡◌}
use Rattle.std.proofs.{Common.{◌≢◌, ◌≤◌}, lemmas.Nat.and_le_r}

-- ---- Links that are as before for the slots of a chain

pub linked_same : (links after : List Link) (xs : List ℕ) (first : ℕ)
    → ((s : ℕ) → has xs s ≡ true → (link_at after s).next ≡ (link_at links s).next)
    → AreLinked links first xs → AreLinked after first xs
linked_same links after [] first same linked = linked
linked_same links after (x ∷ xs) first same linked =
    grind (arith, linked_same links after xs (link_at links x).next)

module _ (links : List Link) where
  -- ---- What is linked to

  pub first_in : (xs : List ℕ) (first : ℕ) → AreLinked links first xs → first ≢ 4294967295
      → has xs first ≡ true
  first_in [] first linked some = absurd (some linked)
  first_in (x ∷ xs) first linked some = grind (arith, has_head)

  pub next_in : (xs : List ℕ) (first : ℕ) → AreLinked links first xs → (p : ℕ) → has xs p ≡ true
      → (link_at links p).next ≢ 4294967295 → has xs (link_at links p).next ≡ true
  next_in [] first linked p h some = grind arith
  next_in (x ∷ xs) first linked p h some =
      grind (arith, first_in, next_in xs (link_at links x).next)

  -- no slot of a chain comes after itself
  pub not_self : (xs : List ℕ) (first : ℕ) → AreLinked links first xs → size xs ≡ length xs → (s : ℕ)
      → has xs s ≡ true → s ≢ 4294967295 → (link_at links s).next ≢ s
  not_self [] first linked apart s h low = grind arith
  not_self (x ∷ xs) first linked apart s h low =
      grind (arith, distinct_parts x xs apart, first_in, not_self xs (link_at links x).next)

-- ---- All but one

pub without_apart : (xs : List ℕ) (s : ℕ) → size xs ≡ length xs
    → size (without xs s) ≡ length (without xs s)
without_apart [] s apart = refl
without_apart (x ∷ xs) s apart =
    grind (arith, distinct_parts x xs apart, without_apart xs s, without_has xs s x)

-- ---- How many there can be

abbrev all_below : ℕ → List ℕ
all_below zero = []
all_below (suc n) = n ∷ all_below n

all_below_length : (n : ℕ) → length (all_below n) ≡ n
all_below_length zero = refl
all_below_length (suc n) = ap suc (all_below_length n)

all_below_has : (n s : ℕ) → s < n → has (all_below n) s ≡ true
all_below_has zero s low = grind arith
all_below_has (suc n) s low = grind (arith, all_below_has n s)

pub few : (xs : List ℕ) (n : ℕ) → size xs ≡ length xs → ((s : ℕ) → has xs s ≡ true → s < n)
    → length xs ≤ n
few xs n apart below =
    grind (arith, size_covered xs (all_below n), all_below_has, size_le_length, all_below_length)

-- ---- A slot that is taken out of its chain

module _ (links after : List Link) where
  -- the first one
  pub first_out : (xs : List ℕ) (s : ℕ) → AreLinked links s xs → size xs ≡ length xs
      → s ≢ 4294967295
      → ((q : ℕ) → has xs q ≡ true → q ≢ s → (link_at after q).next ≡ (link_at links q).next)
      → AreLinked after (link_at links s).next (without xs s)
  first_out [] s linked apart some others = absurd (some linked)
  first_out (x ∷ xs) s linked apart some others =
      grind (arith, distinct_parts, without_absent, linked_same)

  -- one that comes after another
  pub next_out : (xs : List ℕ) (first : ℕ) → AreLinked links first xs → size xs ≡ length xs → (p s : ℕ)
      → has xs p ≡ true → (link_at links p).next ≡ s → s ≢ 4294967295
      → (link_at after p).next ≡ (link_at links s).next
      → ((q : ℕ) → q ≢ p → q ≢ s → (link_at after q).next ≡ (link_at links q).next)
      → AreLinked after first (without xs s)
  next_out [] first linked apart p s h is some past others = grind arith
  next_out (x ∷ xs) first linked apart p s h is some past others =
      let parts = distinct_parts x xs apart in
      let kept = next_out xs (link_at links x).next linked.1 parts.1 p s in
      grind (arith, parts, kept, first_in links xs s, first_out xs s, next_in links xs (link_at links x).next linked.1 p)

-- ---- Where a chain begins

pub home_below : (len h : ℕ) → 0 < len → home len h < len
unfolding home
home_below len h some = grind (arith, and_le_r)
