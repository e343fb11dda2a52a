-- Proofs by identifiers: hints, walks, groups, and room for the literals of all live clauses.
use Rattle.cnf_base.proofs.{MemberLemmas.{has_front, place_of}, SetLemmas.{has_cases, same_there}}
use Rattle.cnf_base.proofs.SetLemmas.{has_append_cases, has_append_left, has_append_right}
use Rattle.{cnf_base.proofs.WalkLemmas.has_more, theory.proofs.LratLemmas.LiveSets.SameClauses-refl}
use Rattle.cnf_base.specs.Literals.{Clause, Literal, complement, complements, has, without}
use Rattle.{live_clauses.proofs.ClausesLemmas.Distinct.distinct_more, std.proofs.Common.{◌≡◌, ◌≤◌}}
use Rattle.{live_clauses.specs.LiveClauses.{AllHold, Holds}, std.specs.List.{IsDistinct, list_any}}
use Rattle.std.proofs.Common.{Err, List, None, Ok, Option, Some, [], ap, append-nil, arith, drop}
use Rattle.std.proofs.Common.{eqb, eqb-true, false, get_or, is_some, length, map, nat_abs, nat_eq}
use Rattle.std.proofs.Common.{of_z, pos, refl, rules, slice_get, slice_index, sym, take, to_z, true}
use Rattle.std.proofs.{Common.{w64, ℕ, ℤ, ◌++◌, ◌+◌, ◌<◌, ◌||◌, ◌∷◌}, lemmas.Bool.Decides.nat_tests}
use Rattle.std.{proofs.lemmas.{Bool.and_parts, Int.to_z-of_z}, specs.FinMap.{FinMap, get-empty}}
use Rattle.std.{proofs.lemmas.Bool.{not-true, or_cases}, specs.List.Sorted.IsStrictlyIncreasing}
use Rattle.std.proofs.lemmas.{Grind.{common_steps, get_or_default_zero}, List.Folds.list_any-append}
use Rattle.std.proofs.lemmas.{List.{drop_all, drop_more, take_all}, Option.{none-some, same_Some}}
use Rattle.std.proofs.lemmas.Map.Keys.{Less-from_sorted, sorted_from_strictly_increasing}
use Rattle.{std.specs.Option.IfNone, theory.proofs.LratLemmas.SameSets.{chain_alike, same_set_more}}
use Rattle.{std.specs.Ordering.nat_cmp, theory.proofs.PropagationLemmas.Conflicts.conflicts_same}
use Rattle.{std.specs.Prelude.⊤, theory.specs.Lrat.{units_of, with_clause, without_id, without_ids}}
use Rattle.steps.specs.Code.Groups.{IsFirstLeftOut, IsGroupEnd, is_unnamed, named_in}
use Rattle.{steps.specs.Code.{Ready.IsReady, Walk.{IsEnd, refusal_at}}, trail.specs.Left.how_many}
use Rattle.steps.specs.declared.lrat.walk.WalkEnd.{WalkEnd, TheVariants.{Conflict, Open}}
use Rattle.theory.specs.{Answers.{StepAnswer, UnlessOutOfMemory}, Propagation.{Live, open_literals}}
use Rattle.theory.specs.Lrat.{AnswersChain, AnswersGroups, ChainEnd, Group, SameClauses, chain}
use Rattle.theory.specs.Lrat.{conflict, group_refusal, groups_of, groups_refusal, is_unsettled}
use Rattle.theory.specs.{Sets.{SameSet, conflicts}, declared.accepted.Accepted.TheVariants.Rat}
use Rattle.theory.specs.declared.refusal.Refusal.{Refusal, TheVariants.{NamedTwice, NotCandidate}}
use Rattle.theory.specs.declared.refusal.Refusal.TheVariants.{Ended, GroupWithoutConflict}
use Rattle.trail.specs.{Trail.{HasRoom, TrailState}, declared.left.Left.TheVariants.One}
use lib.Signed.{lt_z}
use mir.Val.{SFits}
use Rattle.std.specs.FinMap as maps

-- ---- Signed hints as they are read in code

pub named_append : (xs ys : List ℤ) → named_in (xs ++ ys) ≡ named_in xs ++ named_in ys
named_append [] ys = refl
named_append (x ∷ xs) ys = grind (arith, (named_append xs ys))

pub any_named : (k : ℕ) (groups : List Group) →
    has (map (λ group. group.candidate) groups) k ≡ list_any (λ group. eqb group.candidate k) groups
any_named k [] = refl
any_named k (group ∷ groups) = cc (any_named k groups)

abbrev group_of : ℕ → List ℕ → Group
group_of k hints = record { candidate = k; hints = hints }

-- the hint that is read at the place i
abbrev pub read : List ℤ → ℕ → ℤ
read hints i = to_z w64 (of_z w64 (get_or hints i (pos 0)))

module _ (hints : List ℤ) (i : ℕ) (inside : i < length hints)
    (fits : SFits w64 (get_or hints i (pos 0))) where
  pub read_is : read hints i ≡ get_or hints i (pos 0)
  read_is = to_z-of_z w64 (get_or hints i (pos 0)) fits

  pub drop_read : drop i hints ≡ read hints i ∷ drop (i + 1) hints
  drop_read = grind (arith, drop_more, read_is)

  pub units_more : (k : ℕ) → lt_z (read hints i) (pos 0) ≡ false → k ≡ nat_abs (read hints i) →
      units_of (drop i hints) ≡ k ∷ units_of (drop (i + 1) hints)
  units_more k test e = search (rules, arith, drop_read)

  pub groups_more : (k : ℕ) → lt_z (read hints i) (pos 0) ≡ true → k ≡ nat_abs (read hints i) →
      groups_of (drop i hints)
      ≡ group_of k (units_of (drop (i + 1) hints)) ∷ groups_of (drop (i + 1) hints)
  groups_more k test e = grind (arith, drop_read)

  pub abs_more : (k : ℕ) → k ≡ nat_abs (read hints i) →
      map nat_abs (drop i hints) ≡ k ∷ map nat_abs (drop (i + 1) hints)
  abs_more k e = grind (arith, drop_read)

-- ---- A walk depends on the set of true literals alone, and goes on hint by hint

pub same_set_push : (ls : List Literal) (m : Literal) → SameSet (ls ++ m ∷ []) (m ∷ ls)
same_set_push ls m l = grind (arith, has_append_cases, has_append_right, has_append_left)

open_same : (first second : List Literal) (c : Clause) → SameSet first second →
    open_literals first c ≡ open_literals second c
open_same first second c same = grind arith

-- who ends as the first walk ends as the second
abbrev pub Gives : ChainEnd → ChainEnd → Type 0
Gives first second =
    (trues : List Literal) (end : WalkEnd) → IsEnd trues end first → IsEnd trues end second

-- a walk depends on the set alone
pub chain_same : (live : Live) (hints : List ℕ) (first second : List Literal) →
    SameSet first second → Gives (chain live first hints) (chain live second hints)
chain_same live [] first second same = search (rules, arith, conflicts_same)
chain_same live (k ∷ hints) first second same =
    grind (arith, conflicts_same, same_set_more, open_same, (chain_same live hints))

-- ---- One hint

-- a walk whose next hint is k
module _ (live : Live) (ls : List Literal) (left more : List ℕ) (k : ℕ) (left_is : left ≡ k ∷ more)
    (end : ChainEnd) (so_far : Gives (chain live ls left) end) (quiet : conflicts ls ≡ false)
    (c : Clause) (at : live k ≡ Some c) where
  pub walk_one : (m : Literal) → One m ≡ how_many (open_literals ls c) → (after : List Literal) →
      SameSet after (m ∷ ls) → Gives (chain live after more) end
  walk_one m e after same trues w g = grind (arith, chain_same)

-- ---- Groups of hints, one at a time

module _ (live : Live) (ls : List Literal) (pivot : Literal) (earlier : List ℕ) (k : ℕ)
    (hints : List ℕ) (c : Clause) (at : live k ≡ Some c) where
  pub group_not_candidate : has c (complement pivot) ≡ false →
      Some (NotCandidate k) ≡ group_refusal live ls pivot earlier (group_of k hints) (live k)
  group_not_candidate e = grind arith

  pub group_named_twice : has c (complement pivot) ≡ true → has earlier k ≡ true →
      Some (NamedTwice k) ≡ group_refusal live ls pivot earlier (group_of k hints) (live k)
  group_named_twice e f = grind arith

  pub group_walked : has c (complement pivot) ≡ true → has earlier k ≡ false →
      (opposite : Literal) → opposite ≡ complement pivot → (walked : WalkEnd)
      (refusal : Option Refusal) → refusal ≡ refusal_at (GroupWithoutConflict k) walked →
      IsGroupEnd live ls c opposite hints walked →
      refusal ≡ group_refusal live ls pivot earlier (group_of k hints) (live k)
  group_walked e f opposite opposite_is walked refusal is end = grind arith

-- the walk over a group's hints, from literals that conflict, or that do not
pub chain_conflict : (live : Live) (ls : List Literal) (hints : List ℕ) → conflicts ls ≡ true →
    chain live ls hints ≡ conflict
chain_conflict live ls [] h = grind arith
chain_conflict live ls (k ∷ hints) h = grind arith

module _ (live : Live) (ls : List Literal) (c : Clause) (opposite : Literal) (hints : List ℕ) where
  pub group_walks : (start trues : List Literal) →
      SameSet start (ls ++ complements (without c opposite)) → (walked end : WalkEnd) →
      IsEnd trues walked (chain live start hints) → end ≡ walked →
      IsGroupEnd live ls c opposite hints end
  group_walks start trues same walked end h end_is =
      record { trues = trues; is = grind (arith, chain_same) }

-- ---- The groups in their order

module _ (live : Live) (ls : List Literal) (pivot : Literal) where
  groups_earlier : (groups : List Group) (first second : List ℕ) → SameSet first second →
      groups_refusal live ls pivot first groups ≡ groups_refusal live ls pivot second groups
  groups_earlier [] first second same = refl
  groups_earlier (group ∷ groups) first second same =
      let later = groups_earlier groups (group.candidate ∷ first) (group.candidate ∷ second) in
      grind (arith, same_set_more, later)

  module _ (hints : List ℤ) (i : ℕ) (inside : i < length hints)
      (fits : SFits w64 (get_or hints i (pos 0))) (named : List ℕ) (all : Option Refusal)
      (so_far : groups_refusal live ls pivot named (groups_of (drop i hints)) ≡ all) where
    pub groups_pass_over : lt_z (read hints i) (pos 0) ≡ false →
        groups_refusal live ls pivot named (groups_of (drop (i + 1) hints)) ≡ all
    groups_pass_over test = grind (arith, drop_read)

    module _ (k : ℕ) (test : lt_z (read hints i) (pos 0) ≡ true) (k_is : k ≡ nat_abs (read hints i))
        (rest : List ℤ) (rest_is : rest ≡ drop (i + 1) hints)
        (cause : Option Refusal)
        (is : cause ≡ group_refusal live ls pivot named (group_of k (units_of rest)) (live k)) where
      pub groups_go_on : is_some cause ≡ false → (after : List ℕ) →
          ((j : ℕ) → has after j ≡ has named j || eqb k j) →
          groups_refusal live ls pivot after (groups_of (drop (i + 1) hints)) ≡ all
      groups_go_on h after more = grind (arith, groups_earlier, groups_more)

-- ---- The candidates that were named

module _ (hints : List ℤ) (i : ℕ) (inside : i < length hints)
    (fits : SFits w64 (get_or hints i (pos 0))) (named : List ℕ)
    (same : SameSet named (named_in (take i hints))) where
  pub named_kept : lt_z (read hints i) (pos 0) ≡ false →
      SameSet named (named_in (take (i + 1) hints))
  named_kept test j = grind (arith, append-nil, common_steps, named_append)

  pub named_grows : (k : ℕ) → lt_z (read hints i) (pos 0) ≡ true → k ≡ nat_abs (read hints i) →
      (after : List ℕ) → ((j : ℕ) → has after j ≡ has named j || eqb k j) →
      SameSet after (named_in (take (i + 1) hints))
  named_grows k test k_is after more j = grind (arith, common_steps, named_append, list_any-append)

pub when_none : {X : Type 0} (o : Option X) (P : Type 0) → is_some o ≡ false → IfNone o P → P
when_none o P h h2 = grind arith

pub held_grow : (live : Live) (l : Literal) (named after : List ℕ) (k : ℕ) →
    ((j : ℕ) → has after j ≡ has named j || eqb k j) →
    ((j : ℕ) → has named j ≡ true → Holds live l j) → Holds live l k → (j : ℕ) →
    has after j ≡ true → Holds live l j
held_grow live l named after k more hold new j member = grind arith

-- the answer after the groups, where the true literals are as they were
module _ (live : Live) (ls : List Literal) (pivot : Literal) (named : List ℕ) (hints : List ℤ)
    (same : SameSet named (named_in hints)) (refusal : Option Refusal) (none : None ≡ refusal)
    (now : List Literal) (stay : now ≡ ls) (found : Option ℕ)
    (first : IsFirstLeftOut live now pivot named found) where
  pub answers_rat : found ≡ None → AnswersGroups live ls pivot (groups_of hints) refusal (Ok Rat)
  answers_rat is = grind (arith, any_named)

-- ---- The answer depends on the set of true literals alone, from which groups and candidates start

module _ (live : Live) (first second : List Literal) (same : SameSet first second)
    (pivot : Literal) where
  groups_start : (groups : List Group) (earlier : List ℕ) →
      groups_refusal live first pivot earlier groups
      ≡ groups_refusal live second pivot earlier groups
  groups_start groups earlier = grind (arith, chain_alike, SameClauses-refl, list_any-append)

  unsettled_start : (o : Option Clause) → is_unsettled first pivot o ≡ is_unsettled second pivot o
  unsettled_start o = grind (arith, conflicts_same, list_any-append)

-- an open walk in code, and the answer from its list
pub answers_open : (live : Live) (trues : List Literal) (pivot : Literal) (rest c : List Literal)
    (groups : List Group) (end : ChainEnd) (answer : StepAnswer) → c ≡ pivot ∷ rest →
    IsEnd trues Open end →
    AnswersGroups live trues pivot groups (groups_refusal live trues pivot [] groups) answer →
    AnswersChain live c groups end answer
answers_open live trues pivot rest c groups end answer c_is is_end a =
    grind (arith, groups_start, unsettled_start)

pub first_is : (c : List Literal) (pivot : Literal) → Some pivot ≡ slice_get c 0 →
    (rest : List Literal) × (c ≡ pivot ∷ rest)
first_is [] pivot h = absurd (none-some pivot (sym h))
first_is (l ∷ c) pivot h = (c, ap (λ k. k ∷ c) (same_Some l pivot (sym h)))

-- ---- The walk over the unit hints

module _ (live : Live) (c : Clause) (hints : List ℕ) (before : List Literal)
    (none : before ≡ []) where
  pub units_conflict : conflicts (before ++ complements c) ≡ true → (trues : List Literal) →
      IsEnd trues Conflict (chain live (complements c) hints)
  units_conflict h trues = grind (arith, chain_conflict)

  pub units_walk : (start trues : List Literal) → SameSet start (before ++ complements c) →
      (walked : WalkEnd) → IsEnd trues walked (chain live start hints) →
      IsEnd trues walked (chain live (complements c) hints)
  units_walk start trues same walked h = search (rules, arith, chain_same)

-- ---- The rule itself never answers that the session had ended

-- a cause other than that
abbrev IsRuled : Option Refusal → Type 0
IsRuled (Some Ended) = ⊥
IsRuled _ = ⊤

module _ (live : Live) (ls : List Literal) (pivot : Literal) where
  ruled_groups : (groups : List Group) (earlier : List ℕ) →
      IsRuled (groups_refusal live ls pivot earlier groups)
  ruled_groups [] earlier = tt
  ruled_groups (group ∷ groups) earlier =
      grind (arith, (ruled_groups groups (group.candidate ∷ earlier)))

pub chain_never : (live : Live) (c : List Literal) (groups : List Group) (end : ChainEnd) →
    AnswersChain live c groups end (Err Ended) → ⊥
chain_never live c groups end h = search (rules, arith, ruled_groups)

-- ---- Answers of the code

pub unless_map : (answer : StepAnswer) {P Q : Type 0} → (P → Q) → UnlessOutOfMemory answer P →
    UnlessOutOfMemory answer Q
unless_map answer h h2 = search rules

-- ---- Candidates without a group: whether there are any, and those that are passed over

-- of numbers that rise, those below one stand before it
in_front : (ids : List ℕ) → IsStrictlyIncreasing ids → (i x j : ℕ) → i < length ids →
    x ≡ get_or ids i x → j < x → has ids j ≡ true → has (take i ids) j ≡ true
in_front ids rising i x j inside is below member =
    let place = place_of ids j member in let m = place.0 in
    let sorted = sorted_from_strictly_increasing ids rising in
    let less = Less-from_sorted nat_cmp ids i m 0 sorted in
    grind (arith, nat_tests, has_front, get_or_default_zero, less)

module _ (live : Live) (ls : List Literal) (pivot : Literal) (named : List ℕ) where
  unnamed_holds : (k : ℕ) → is_unnamed live ls pivot named k ≡ true →
      Holds live (complement pivot) k
  unnamed_holds k h = grind arith

  -- where no more clauses have the complement than are named, none is left out
  pub none_left : ((k : ℕ) → has named k ≡ true → Holds live (complement pivot) k) →
      IsDistinct nat_eq named → (count : ℕ) →
      ((ids : List ℕ) → AllHold live (complement pivot) ids → length ids ≤ count) →
      count ≤ length named → IsFirstLeftOut live ls pivot named None
  none_left hold different count most few k =
      grind (arith, most (k ∷ named), distinct_more, not-true, and_parts, has_cases, unnamed_holds)

  -- ---- The walk over all that have the complement

  module _ (ids : List ℕ) where
    -- none of the first is left out
    abbrev pub Passed : ℕ → Type 0
    Passed i = (k : ℕ) → has (take i ids) k ≡ true → is_unnamed live ls pivot named k ≡ false

    module _ (i : ℕ) (inside : i < length ids) (passed : Passed i) where
      pub passed_more : is_unnamed live ls pivot named (slice_index ids i) ≡ false → Passed (i + 1)
      passed_more here k member =
          let more = has_more ids i inside (slice_index ids i) in
          grind (arith, or_cases, eqb-true, get_or_default_zero, more)

      pub first_found : IsStrictlyIncreasing ids →
          ((k : ℕ) → Holds live (complement pivot) k → has ids k ≡ true) →
          is_unnamed live ls pivot named (slice_index ids i) ≡ true →
          IsFirstLeftOut live ls pivot named (Some (slice_index ids i))
      first_found rising all here = search (rules, in_front)

    pub none_found : ((k : ℕ) → Holds live (complement pivot) k → has ids k ≡ true) → (i : ℕ) →
        length ids ≤ i → Passed i → IsFirstLeftOut live ls pivot named None
    none_found all i past passed k = grind (arith, take_all, unnamed_holds)

-- ---- A clause that is added

pub ready_with : (trues : TrailState) (live after : Live) (id : ℕ) (c : Clause) →
    SameClauses after (with_clause live id c) → IsReady live trues → HasRoom trues.reserved c →
    IsReady after trues
ready_with trues live after id c same ready room = grind (arith, same_there)

-- ---- Clauses that are taken off

without_stays : (ids : List ℕ) (live : Live) (k : ℕ) (c : Clause) →
    without_ids live ids k ≡ Some c → live k ≡ Some c
without_stays [] live k c h = h
without_stays (id ∷ ids) live k c h =
    grind (arith, none-some, (without_stays ids (without_id live id) k c h))

pub ready_without : (trues : TrailState) (live after : Live) (ids : List ℕ) →
    ((k : ℕ) → after k ≡ without_ids live ids k) → IsReady live trues → IsReady after trues
ready_without trues live after ids is ready = search (rules, arith, without_stays)

-- at the start
pub ready_empty : (trues : TrailState) (live : FinMap nat_cmp Clause) → trues.lits ≡ [] →
    live ≡ maps.empty → IsReady (maps.get live) trues
ready_empty trues live none_true none = grind (arith, get-empty)

-- what is said of a walk over hints
pub ruleset walk_steps = (units_more, drop_all, group_walks, chain_conflict)

-- what is said of an addition, and of the candidates that it names
pub ruleset addition_steps = (ready_with, chain_never, answers_rat, any_named)

pub ruleset candidate_steps = (passed_more, first_found)
