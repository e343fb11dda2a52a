-- Clauses whose literals that are not false are brought to the front.
use Rattle.{clause_db.proofs.StoreLemmas.Swap.has_swapped, cnf_base.proofs.MapLemmas.insert_here}
use Rattle.cnf_base.{proofs.MemberLemmas.{has_place, place_of}, specs.Literals.{Clause, Literal}}
use Rattle.cnf_base.specs.Literals.{complement, has}
use Rattle.root_literals.{proofs.RootLemmas.Terms.Clauses, specs.Roots.{IsArranged, IsBrought}}
use Rattle.std.proofs.Common.{List, Some, arith, false, get_or, length, refl, swap, true}
use Rattle.std.proofs.{Common.{true≢false, ℕ, ◌<◌, ◌≡◌, ◌≤◌}, lemmas.Bool.cases_eq}
use Rattle.std.proofs.lemmas.List.Edits.{length-swap, swapped_from_swap}
use Rattle.trail.specs.declared.left.Left.TheVariants.{More, Nothing, One}
use Rattle.std.specs.FinMap as maps

module _ (live : Clauses) (slot : ℕ) (trues : List Literal) (place : ℕ) (c : Clause) (here : maps.get live slot ≡ Some c) where
  pub brought : (after : Clauses) (found : ℕ) →
      place ≤ found → found < length c → has trues (complement (get_or c found 0)) ≡ false →
      after ≡ maps.insert live slot (swap c place found) → (d : Clause) → maps.get live slot
      ≡ Some d → (e : Clause) × (maps.get after slot ≡ Some e) × IsBrought trues d e place true
  brought after found low inside is_open is d there =
      let w = swapped_from_swap c (swap c place found) place found 0 (omega (arith, low, inside)) inside refl in grind (arith, swap, insert_here, has_swapped, length-swap, true≢false)

pub arranged_nothing : (trues : List Literal) (c d : Clause) → IsBrought trues c d 0 false → IsArranged trues d Nothing
arranged_nothing = grind (arith, place_of)

module _ (trues : List Literal) (c d e : Clause) (first : IsBrought trues c d 0 true) where
  pub first_there : has d (get_or d 0 0) ≡ true
  first_there = grind (arith, has_place)

  pub arranged_more : IsBrought trues d e 1 true → IsArranged trues e More
  arranged_more = grind arith

  pub arranged_one : IsBrought trues d e 1 false → (l : Literal) → get_or e 0 0 ≡ l → IsArranged trues e (One l)
  arranged_one = grind (arith, first_there, place_of, cases_eq)

  pub one_inside : IsBrought trues d e 1 false → 0 < length e
  one_inside = grind (arith, place_of, first_there)
