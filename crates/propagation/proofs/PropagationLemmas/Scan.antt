-- The invariant of the plainest propagation, as clauses come and go.
use Rattle.{clause_db.specs.Store.{MemoryState, literals_in, no_clauses}, std.specs.Ordering.nat_cmp}
use Rattle.cnf_base.proofs.{MapLemmas.{get_remove, sum_empty}, SetLemmas.has_append_right}
use Rattle.cnf_base.proofs.SetLemmas.{both_pass, has_append_cases, has_append_left, same_there}
use Rattle.cnf_base.specs.Literals.{Clause, Literal, has, same_clause, size}
use Rattle.propagation.proofs.PropagationLemmas.Exact.{answer_from, answer_through, exact_after}
use Rattle.propagation.{proofs.PropagationLemmas.Exact.conflict_clashes, specs.Code.Exact.IsExact}
use Rattle.propagation.specs.Assumptions.{Assuming, AssumptionsState, IsAnswer, MayAssume}
use Rattle.propagation.specs.{Assumptions.Propagation, Code.Scan.{AssumesOn, IsHeld, IsScan}}
use Rattle.{propagation.specs.Assumptions.assumed_by, trail.specs.Trail.{HasRoom, HasRoomForAll}}
use Rattle.propagation.specs.declared.answer.Answer.{Answer, TheVariants.Quiet}
use Rattle.std.proofs.Common.{List, Some, [], arith, false, length, rules, take, true, ℕ, ◌++◌, ◌∷◌}
use Rattle.{std.proofs.Common.{◌≡◌, ◌≢◌}, theory.proofs.PropagationLemmas.Forced.forced_assumed}
use Rattle.std.{proofs.lemmas.Bool.{cases_eq, false≢true}, specs.Result.{IfOk, OnErr, is_err}}
use Rattle.std.{proofs.lemmas.Option.{none-some, same_Some}, specs.declared.result.Result.Result}
use Rattle.std.specs.FinMap.{FinMap}
use Rattle.theory.specs.{Propagation.{Clash, Forced, IsClosed, Live}, Sets.{SameSet, conflicts}}
use Rattle.std.specs.FinMap as maps

pub scan_empty : (live : FinMap nat_cmp Clause) (held : AssumptionsState) → live ≡ maps.empty
    → held.trail.lits ≡ [] → held.assumptions ≡ [] → IsScan live held
scan_empty = grind (arith, maps.get-empty)

-- more room, and else nothing new
pub held_reserved : (live : FinMap nat_cmp Clause) (Roots : List Literal → Type 0)
    (before after : AssumptionsState) → after.trail.lits ≡ before.trail.lits
    → after.assumptions ≡ before.assumptions → after.starts ≡ before.starts
    → ((v : ℕ) → has before.trail.reserved v ≡ true → has after.trail.reserved v ≡ true)
    → IsHeld live Roots before → IsHeld live Roots after
held_reserved = grind arith

-- a clause that is added, for which there is room
pub room_added : (reserved : List ℕ) (live after : FinMap nat_cmp Clause) (slot : ℕ) (lits : Clause)
    → HasRoomForAll reserved (maps.get live) → HasRoom reserved lits → (c : Clause)
    × (maps.get after slot ≡ Some c) × (same_clause c lits ≡ true)
    → ((s : ℕ) → s ≢ slot → maps.get after s ≡ maps.get live s)
    → HasRoomForAll reserved (maps.get after)
room_added reserved live after slot lits all room stored others =
    grind (arith, cases_eq, same_there, same_Some)

pub room_removed : (reserved : List ℕ) (live after : FinMap nat_cmp Clause) (slot : ℕ)
    → after ≡ maps.remove live slot → HasRoomForAll reserved (maps.get live)
    → HasRoomForAll reserved (maps.get after)
room_removed reserved live after slot is all = grind (arith, get_remove, none-some)

-- a clause is added or taken out where nothing is assumed
pub scan_with : (live after : FinMap nat_cmp Clause) (held : AssumptionsState) → held.assumptions
    ≡ [] → HasRoomForAll held.trail.reserved (maps.get after) → IsScan live held → IsScan after held
scan_with = grind arith

pub room_inserted : {E : Type 0} (reserved : List ℕ) (live after : FinMap nat_cmp Clause)
    (lits : Clause) (r : Result ℕ E) → HasRoomForAll reserved (maps.get live)
    → HasRoom reserved lits → IfOk r
    (λ slot. (c : Clause) × (maps.get after slot ≡ Some c) × (same_clause c lits ≡ true))
    → IfOk r (λ slot. (s : ℕ) → s ≢ slot → maps.get after s ≡ maps.get live s)
    → OnErr r (after ≡ live) → HasRoomForAll reserved (maps.get after)
room_inserted = grind (arith, cases_eq, same_there, same_Some)

-- what is kept in a store without clauses
pub none_alone : (s : MemoryState) → s ≡ no_clauses → s.stored ≡ literals_in s.live
none_alone s is = cc (sum_empty size)

-- ---- One more assumption

-- nothing is true where nothing is assumed, so what is true is forced
pub no_roots : (live : Live) (lits : List Literal) → lits ≡ [] → (l : Literal) → has lits l ≡ true
    → Forced live [] l
no_roots live lits none l h = grind (arith, false≢true)

module _ (live : FinMap nat_cmp Clause) (Roots : List Literal → Type 0) (sound : (ls : List Literal) → Roots ls → (l : Literal) → has ls l ≡ true → Forced (maps.get live) [] l)
    (before after : AssumptionsState) (added : List Literal) (may : MayAssume before.assumptions) (scan : IsHeld live Roots before) where
  before_sound : (l : Literal) → has before.trail.lits l ≡ true
      → Forced (maps.get live) (assumed_by before.assumptions) l
  before_sound = grind arith

  before_start : (l : Literal) → has (assumed_by before.assumptions) l ≡ true
      → has before.trail.lits l ≡ true
  before_start = grind arith

  pub part_clashes : conflicts (before.trail.lits ++ added) ≡ true
      → Clash (maps.get live) (assumed_by before.assumptions ++ added)
  part_clashes = search (rules, conflict_clashes, before_sound)

  pub part_answer : SameSet after.trail.lits (before.trail.lits ++ added) → (a : Answer)
      → IsAnswer (maps.get live) after.trail.lits a
      → IsAnswer (maps.get live) (assumed_by before.assumptions ++ added) a
  part_answer same = search (rules, answer_from, before_sound, before_start)

  -- what is true at the end, and what stands
  module _ (last : AssumptionsState) (answer : Answer) (all : List Literal) (stand : last.assumptions ≡ record { answer = answer; assumed = all } ∷ before.assumptions) (starts : last.starts ≡ length before.trail.lits ∷ before.starts)
      (begins : take (length before.trail.lits) last.trail.lits ≡ before.trail.lits) (reserved : SameSet last.trail.reserved before.trail.reserved) where
    pub scan_after : (answer ≡ Quiet → IsExact (maps.get live) all last.trail.lits)
        → IsHeld live Roots last
    scan_after exact = grind arith

  pub part_exact : SameSet after.trail.lits (before.trail.lits ++ added) → (all lits : List Literal)
      → SameSet all (assumed_by before.assumptions ++ added)
      → take (length after.trail.lits) lits ≡ after.trail.lits
      → ((l : Literal) → has lits l ≡ true → Forced (maps.get live) after.trail.lits l)
      → IsClosed (maps.get live) (λ l. has lits l) → IsExact (maps.get live) all lits
  part_exact same all lits alike begins forced closed =
      search (rules, exact_after, before_sound, before_start)

-- what an assumption of the given literals does is what one of the added ones does
pub assuming_from : {E : Type 0} (before after : Propagation) (live : FinMap nat_cmp Clause)
    (held last : AssumptionsState) (given added : List Literal) (r : Result Answer E)
    → live ≡ before.live → held.assumptions ≡ before.assumptions → given ≡ added
    → before.has_refused ≡ false → after.live ≡ live → after.stored ≡ literals_in after.live
    → after.assumptions ≡ last.assumptions → after.has_refused ≡ is_err r
    → AssumesOn live held last given r → Assuming before after added r
assuming_from before after live held last given added r h h2 h3 h4 h5 h6 h7 h8 h9 = grind arith

-- memory was refused
pub assumed_none : {E : Type 0} (live : FinMap nat_cmp Clause) (before after : AssumptionsState)
    (added : List Literal) (r : Result Answer E) → is_err r ≡ true
    → after.assumptions ≡ before.assumptions → AssumesOn live before after added r
assumed_none live before after added r h h2 = grind (arith, false≢true)

-- the same literals in another order
pub assuming_alike : {E : Type 0} (before after : Propagation) (first second : List Literal) (r : Result Answer E) → SameSet first second → Assuming before after first r → Assuming before after second r
assuming_alike = grind (arith, answer_through, forced_assumed, both_pass, has_append_cases, has_append_left, has_append_right)

pub ruleset removed_steps = (scan_with, room_removed)
