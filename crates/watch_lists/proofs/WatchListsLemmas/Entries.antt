-- The entries of one clause, and the slots of those that have none.
use Rattle.clause_db.{proofs.StoreLemmas.Below.below_all, specs.Store.is_tautology}
use Rattle.cnf_base.{proofs.{SetLemmas.has_head, SizeLemmas.distinct_parts}, specs.Literals.Clause}
use Rattle.{cnf_base.specs.Literals.{Literal, has, size}, std.proofs.Common.{Bool, List, Option}}
use Rattle.std.proofs.Common.{Some, [], ap, arith, cond, eqb, false, get_or, length, ne_eqb, refl}
use Rattle.std.proofs.Common.{rules, sym, true, ℕ, ◌&&◌, ◌+◌, ◌<◌, ◌||◌, ◌∙◌, ◌∷◌, ◌≡◌, ◌≢◌, ◌≤◌}
use Rattle.std.proofs.lemmas.{Bool.{false≢true, true≢false}, List.Sums.sum_by-cons}
use Rattle.std.proofs.lemmas.Option.{same_Some}
use Rattle.watch_lists.{proofs.WatchListsLemmas.Watched.units_apart, specs.Lists.{fits, times_in}}
use Rattle.watch_lists.specs.Watched.{IsTautologyList, watches}

-- a clause of two literals or more
module _ (first second : Literal) where
  pub two_apart : (c : Clause) → 2 ≤ length c → size c ≡ length c → first ≡ get_or c 0 first → second ≡ get_or c 1 second → first ≢ second
  two_apart [] long different first_is second_is = absurd (omega (arith, long))
  two_apart (a ∷ []) long different first_is second_is = absurd (omega (arith, long))
  two_apart (a ∷ b ∷ c) long different first_is second_is = λ same.
      true≢false (sym (has_head b c) ∙ ap (has (b ∷ c)) (sym second_is ∙ sym same ∙ first_is) ∙ (distinct_parts a (b ∷ c) different).0)

  pub two_watched : (c : Clause) → is_tautology c ≡ false → 2 ≤ length c → first ≡ get_or c 0 first → second ≡ get_or c 1 second → (x : Literal) → watches c x ≡ (eqb first x || eqb second x)
  two_watched c h1 h2 h3 h4 x = search rules

  -- an entry in each of the two lists
  pub one_each : first ≢ second → (slot l s : ℕ) → cond {A = ℕ} ((eqb first l || eqb second l) && eqb s slot) 1 0 ≡ cond (eqb l first && eqb s slot) 1 0 + cond (eqb l second && eqb s slot) 1 0
  one_each apart slot l s = grind arith

  -- the same where only some literals get one
  pub one_each_in : first ≢ second → (among : Literal → Bool) (slot l s : ℕ)
      → cond {A = ℕ} (among l && (eqb first l || eqb second l) && eqb s slot) 1 0 ≡
      cond (among first && eqb l first && eqb s slot) 1 0
      + cond (among second && eqb l second && eqb s slot) 1 0
  one_each_in apart among slot l s = grind arith

  -- an entry of each fits the clause
  pub both_fit : (c : Clause) → 2 ≤ length c → size c ≡ length c → first ≡ get_or c 0 first
      → second ≡ get_or c 1 second → (fits c first second (eqb (length c) 2) ≡ true)
      × (fits c second first (eqb (length c) 2) ≡ true)
  both_fit [] long different first_is second_is = absurd (omega (arith, long))
  both_fit (a ∷ []) long different first_is second_is = absurd (omega (arith, long))
  both_fit (a ∷ b ∷ c) long different first_is second_is =
      let apart = two_apart (a ∷ b ∷ c) long different first_is second_is in
      search (rules, arith, ne_eqb, has_head)

-- ---- Slots in a list

pub has_times : (xs : List ℕ) (s : ℕ) → 0 < times_in s xs → has xs s ≡ true
has_times [] s h = absurd (omega (arith, h))
has_times (x ∷ xs) s h = search (rules, arith, sum_by-cons, (has_times xs))

pub times_has : (xs : List ℕ) (s : ℕ) → has xs s ≡ true → 0 < times_in s xs
times_has [] s h = absurd (false≢true h)
times_has (x ∷ xs) s h = by_test (eqb x s) refl (times_has xs s) h
  where
    by_test : (b : Bool) → eqb x s ≡ b → (has xs s ≡ true → 0 < times_in s xs) → (b || has xs s) ≡ true → 0 < times_in s (x ∷ xs)
    by_test true e rest g =
        let split = sum_by-cons (λ y. cond (eqb y s) 1 0) x xs in
        let one = ap (λ b. cond {A = ℕ} b 1 0) e in
        omega (arith, split, one)
    by_test false e rest g = search rules

-- a slot stands in their list where its clause is one
pub tautology_listed : (live : ℕ → Option Clause) (list : List ℕ) → IsTautologyList live list → (s : ℕ) (c : Clause) → live s ≡ Some c → has list s ≡ is_tautology c
tautology_listed live list listed s c here = search (rules, arith, times_has, has_times)

-- what is said of entries that are added or taken off
pub ruleset entry_steps = (units_apart, tautology_listed, has_times, same_Some, below_all)
