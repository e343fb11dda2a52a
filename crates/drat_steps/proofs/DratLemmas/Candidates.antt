-- The search over the clauses that an addition is tried with.
use Rattle.{clause_db.specs.Store.IsTouchedAt, std.proofs.{Common.{◌<◌, ◌≡◌}, lemmas.Bool.or_cases}}
use Rattle.cnf_base.proofs.{LiteralLemmas.complement-complement, WalkLemmas.{has_more, is_in}}
use Rattle.cnf_base.proofs.SetLemmas.{any_from, any_some, both_pass, complements_has, filter_has}
use Rattle.cnf_base.proofs.SetLemmas.{has-complements, has-filter, has_append_cases}
use Rattle.cnf_base.proofs.SetLemmas.{has_append_left, has_append_right, same_back, same_there}
use Rattle.cnf_base.specs.Literals.{Clause, Literal, complement, complements, has, same_clause}
use Rattle.drat_steps.proofs.DratLemmas.{Steps.clash_same, Terms.{AllIn, Clauses, IsFound}}
use Rattle.{drat_steps.specs.Code.Assumed.IsAsBefore, std.proofs.lemmas.Grind.get_or_default_zero}
use Rattle.drat_steps.specs.Code.Candidates.{AllClash, CanTry, HasClashed, IsWithin, PassesIn}
use Rattle.drat_steps.specs.Code.Candidates.{SearchedIn, is_candidate, is_left, rest_of}
use Rattle.drat_steps.specs.declared.candidates.{Candidates.Candidates, Clashed.Clashed}
use Rattle.drat_steps.specs.declared.candidates.Candidates.TheVariants.{Holding, ReducedBy}
use Rattle.propagation.specs.Assumptions.{HasAt, LastIsAnswered, MayAssume, Propagation, assumed_by}
use Rattle.{propagation.specs.declared.answer.Answer.TheVariants.Quiet, std.specs.List.list_any}
use Rattle.std.proofs.Common.{Bool, IsSome, List, Option, Some, arith, eqb-true, false, get_or, inl}
use Rattle.std.proofs.Common.{inr, is_some, length, rules, slice_index, take, true, ℕ, ◌++◌, ◌+◌}
use Rattle.theory.proofs.PropagationLemmas.Forced.{forced_assumed, forced_through}
use Rattle.theory.specs.Propagation.{Clash, Forced, Live, by_both}
use Rattle.std.specs.FinMap as maps

pub clause_there : (o : Option Clause) → is_some o ≡ true → (c : Clause) × (o ≡ Some c)
clause_there o h = search rules

-- ---- Whether a clause is a candidate

any_same : (p : Literal → Bool) (c d : Clause) → same_clause c d ≡ true →
    list_any p c ≡ list_any p d
any_same p c d same = both_pass _ _
    (λ h. let w = any_some p c h in any_from p d w.0 (same_there c d same w.0 w.1) w.2)
    (λ h. let w = any_some p d h in any_from p c w.0 (same_back c d same w.0 w.1) w.2)

candidate_same : (them : Candidates) (c d : Clause) → same_clause c d ≡ true →
    is_candidate them c ≡ is_candidate them d
candidate_same (Holding l) c d same = search (rules, arith, both_pass, same_there, same_back)
candidate_same (ReducedBy witness) c d same = search (rules, any_same)

-- the clause was looked at in an order of its own
pub looked_at : (o : Option Clause) (them : Candidates) (seen : Clause) (is_one : Bool) →
    (c : Clause) × (o ≡ Some c) × (same_clause c seen ≡ true) →
    is_one ≡ is_candidate them seen → (d : Clause) → o ≡ Some d → is_candidate them d ≡ is_one
looked_at o them seen is_one there is d at = grind (arith, candidate_same)

-- ---- The walk

-- each candidate in these slots clashes
abbrev pub Passed : Propagation → Candidates → List ℕ → Type 0
Passed p candidates slots = (s : ℕ) → has slots s ≡ true → PassesIn p candidates s true

-- ---- A candidate that has all that is left of one that clashed

pub clashed_after : (before after : Propagation) → IsAsBefore before after →
    (them : Candidates) (last : Clashed) → HasClashed before them last → HasClashed after them last
clashed_after before after same them last known = record {
  left = known.left;
  clashes = λ some. rw same.live (rw same.assumptions (known.clashes some));
}

-- more literals assumed false clash too
more_assumed : (assumed rest more : List Literal) → AllIn rest more →
    AllIn (assumed ++ complements rest) (assumed ++ complements more)
more_assumed assumed rest more all a h = elim (has_append_cases assumed _ a h) [
  | inl e ↦ grind (arith, has_append_left)
  | inr e ↦ has_append_right assumed _ a (rw (complement-complement a) at
      (has-complements more (complement a) (all (complement a) (complements_has rest a e))))
]

clash_more : (live : Live) (assumed rest more : List Literal) → AllIn rest more →
    Clash live (assumed ++ complements rest) → Clash live (assumed ++ complements more)
clash_more live assumed rest more all = clash_same _ _ _ (more_assumed assumed rest more all)

-- a literal that is left of a clause is forced, so that the rest clashes
pub clashes_by_true : (live : Live) (assumed : List Literal) (them : Candidates) (c : Clause)
    (l : Literal) → has c l ≡ true → is_left them l ≡ true → Forced live assumed l →
    Clash live (assumed ++ complements (rest_of them c))
clashes_by_true live assumed them c l member left forced =
    by_both l (grind (arith, forced_through, forced_assumed, has_append_left))
    (grind (arith, forced_assumed, has_append_right, has-complements, has-filter))

-- what is left of the clause clashes
abbrev Clashing : Propagation → Candidates → Clause → Type 0
Clashing p them c =
    Clash (maps.get p.live) (assumed_by p.assumptions ++ complements (rest_of them c))

module _ (clauses : Propagation) (them : Candidates) (slot : ℕ) (seen : Clause)
    (there : IsFound clauses.live slot seen) where
  seen_is : (d : Clause) → maps.get clauses.live slot ≡ Some d → same_clause d seen ≡ true
  seen_is d at = grind arith

  pub clashes_within : (last : Clashed) → HasClashed clauses them last →
      IsWithin last.rest.items seen → PassesIn clauses them slot true
  clashes_within last known within d at _ = clash_more _ _ _ _
      (grind (arith, has-filter, same_back, seen_is)) (known.clashes within.some)

  -- what is left of the clause as it was looked at
  pub clashes_seen : Clashing clauses them seen → PassesIn clauses them slot true
  clashes_seen clash d at _ = clash_more _ _ _ _
      (grind (arith, filter_has, has-filter, same_back, seen_is)) clash

  pub clashed_now :
      ((d : Clause) → maps.get clauses.live slot ≡ Some d → Clashing clauses them d) →
      (last : Clashed) → last.rest.items ≡ rest_of them seen → HasClashed clauses them last
  clashed_now clash last is = record {
    left = grind (arith, filter_has);
    clashes = λ _. clash_more _ _ _ _ (grind (arith, filter_has, has-filter, same_there))
        (clash there.0 there.1);
  }

-- the literals touch all that can be a candidate
abbrev Touch : List Literal → Candidates → Type 0
Touch lits them =
    (c : Clause) → is_candidate them c ≡ true → list_any (λ l. has c (complement l)) lits ≡ true

-- and no live clause is touched
pub none_is_one : (live : Live) (assumed : List Literal) (them : Candidates) (lits : List Literal) →
    Touch lits them →
    ((l : Literal) → has lits l ≡ true → (s : ℕ) → ¬ HasAt live (complement l) s) →
    AllClash live assumed (is_candidate them) (rest_of them)
none_is_one live assumed them lits touched none k d at test =
    let w = any_some _ lits (touched d test) in
    absurd (none w.0 w.1 k (grind arith))

-- each slot has a clause
abbrev Filled : Clauses → List ℕ → Type 0
Filled live slots = (s : ℕ) → has slots s ≡ true → IsSome (maps.get live s)

-- the walk comes to one of the slots; what is asked later is said of the state before, which has
-- the same clauses and assumptions
module _ (before after : Propagation) (same : IsAsBefore before after) (them : Candidates)
    (slots : List ℕ) (i slot : ℕ) (inside : i < length slots) (is : slot ≡ slice_index slots i)
    (found : Bool) (answer : PassesIn after them slot found) where
  item : slot ≡ get_or slots i slot
  item = grind (arith, get_or_default_zero)

  now : (passes : Bool) → found ≡ passes → PassesIn before them slot passes
  now passes is = search rules

  pub stops_at : Filled before.live slots → found ≡ false → SearchedIn before them false
  stops_at alive quiet =
      let w = clause_there _ (alive slot (grind (arith, is_in, item))) in
      let here = now false quiet w.0 w.1 in
      search rules

  pub passed_more : Passed before them (take i slots) → found ≡ true →
      Passed before them (take (i + 1) slots)
  passed_more passed passes s h = elim (or_cases _ _ (grind (arith, has_more, item))) [
    | inl early ↦ passed s early
    | inr here ↦ rw (eqb-true slot s here) at (now true passes)
  ]

-- ---- The clauses that the literals touch, all of them in these slots

pub touched_alive : (live : Clauses) (lits slots items : List ℕ) → items ≡ slots →
    ((s : ℕ) → has slots s ≡ true → IsTouchedAt live lits s) → Filled live items
touched_alive live lits slots items is each s h = search rules

pub can_try : (before after : Propagation) → IsAsBefore before after →
    MayAssume before.assumptions → LastIsAnswered Quiet before.assumptions →
    (slots : List ℕ) (i slot : ℕ) → i < length slots → slot ≡ slice_index slots i →
    Filled before.live slots → CanTry after slot
can_try before after same room quiet slots i slot inside is alive =
    search (rules, arith, is_in, get_or_default_zero)

pub all_touched_passed : (p : Propagation) (them : Candidates) (lits : List Literal) →
    Touch lits them → (slots items : List ℕ) → items ≡ slots →
    ((s : ℕ) → IsTouchedAt p.live lits s → has slots s ≡ true) → Passed p them items →
    SearchedIn p them true
all_touched_passed p them lits touched slots items is all passed k d at test =
    passed k (grind arith) d at test

pub ruleset walk_steps = (can_try, touched_alive, stops_at)
