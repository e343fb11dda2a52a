-- What is kept where a literal is taken back of which no clause knows but its unit clause.
use Rattle.{clause_db.specs.Store.copies_with, tables.specs.ByKey.at}
use Rattle.cnf_base.proofs.{LiteralLemmas.complement-complement, SetLemmas.{has_cases, has_head}}
use Rattle.cnf_base.proofs.{MemberLemmas.{has_front, place_in_front}, SizeLemmas.has_at}
use Rattle.cnf_base.specs.Literals.{Clause, Literal, complement, has}
use Rattle.propagation.proofs.PropagationLemmas.Counts.{copies_without, none_with}
use Rattle.{propagation.specs.Assumptions.HasAt, trail.specs.Trail.HasNoVariableTwice}
use Rattle.root_literals.proofs.RootLemmas.Kept.{noted_left, still_seen, was_there}
use Rattle.root_literals.proofs.RootLemmas.Reasons.{counted_out, in_rest, not_before, seen_has_at}
use Rattle.root_literals.proofs.RootLemmas.{Reasons.there_seen, Terms.{Clauses, ReasonOf, shown}}
use Rattle.root_literals.proofs.RootLemmas.Watched.{front_in_front, front_part}
use Rattle.root_literals.specs.History.{IsHistory, sure_of, trues_at, visits}
use Rattle.root_literals.specs.Roots.{AreReasoned, FollowsReasons, HaveUnits, IsAbsent, IsKept}
use Rattle.root_literals.specs.{Roots.{IsKnown, IsUnneeded, has_conflict}, declared.kept.Kept.Kept}
use Rattle.root_literals.specs.{Uses.{clause_in, is_in, times}, declared.kept.Kept.TheVariants.All}
use Rattle.root_literals.specs.{Watched.{HasUnit, IsPart, IsWatched}, declared.roots.Roots.Roots}
use Rattle.std.proofs.Common.{Bool, List, Some, [], arith, cond, eq-eqb, eqb, eqb-true, false}
use Rattle.std.proofs.Common.{get_or, inl, inr, length, remove, rules, subst, sym, take, true}
use Rattle.std.proofs.Common.{true≢false, ℕ, ◌+◌, ◌<◌, ◌||◌, ◌∷◌, ◌≡◌, ◌≢◌, ◌≤◌}
use Rattle.std.proofs.lemmas.Bool.{cases_eq, cases_lt, false_from_ne_true, false≢true, or_cases}
use Rattle.std.proofs.lemmas.{Bool.{or_left, or_right}, Grind.get_or_default_zero, Option.same_Some}
use Rattle.std.proofs.lemmas.List.Edits.{get_or-remove_above, get_or-remove_below, length-remove}
use Rattle.trail.proofs.TrailLemmas.Without.{IsFront, front_before, front_still, front_was}
use Rattle.trail.proofs.TrailLemmas.Without.{none_left, still_there, was_there as was_true}
use Rattle.std.specs.FinMap as maps

-- one clause has the literal
pub absent_else : (live : Clauses) (slot : ℕ) (l : Literal) → maps.get live slot ≡ Some (l ∷ []) → 1 ≡ copies_with live l → IsAbsent (maps.get (maps.remove live slot)) l
absent_else live slot l unit one s c is = false_from_ne_true (has c l) (λ h. none_with (maps.remove live slot) l (grind (arith, copies_without, has_head)) s (grind arith))

-- no clause has the complement
pub unneeded_none : (live : Clauses) (reason_of : ReasonOf) (lits : List Literal) (place : ℕ) (l : Literal) → copies_with live (complement l) ≡ 0 → IsUnneeded (maps.get live) reason_of lits place l
unneeded_none live reason_of lits place l none q s c _ _ _ at = grind (arith, none_with live (complement l) none s)

-- no literal has a reason with it
pub unneeded_unused : (live : Clauses) (reason_of : ReasonOf) (lits : List Literal) (place : ℕ) (l : Literal) → ((m : Literal) → has lits m ≡ true → is_in (clause_in (maps.get live) (reason_of m)) (complement l) ≡ false) →
    IsUnneeded (maps.get live) reason_of lits place l
unneeded_unused = search (rules, get_or, has_at, get_or_default_zero)

-- the literal at a place is taken back, which is true by its own unit clause alone
pub record IsTakenBack (live : Clauses) (slot place : ℕ) (l : Literal) (lits : List Literal)
    (roots after : Roots) : Type 0 where
  pub inside : place < length lits
  pub stands : get_or lits place 0 ≡ l
  pub different : HasNoVariableTwice lits
  pub unit : maps.get live slot ≡ Some (l ∷ [])
  pub absent : IsAbsent (maps.get (maps.remove live slot)) l
  pub by_it : at roots.reasons l ≡ Some slot
  pub unneeded : IsUnneeded (maps.get live) (at roots.reasons) lits place l
  pub kept : IsKept live roots lits
  pub quiet : has_conflict roots.kept ≡ false
  pub kept_is : after.kept ≡ roots.kept
  pub reasons_are : after.reasons ≡ roots.reasons
  pub fewer : place < roots.uses.counted → after.uses.counted + 1 ≡ roots.uses.counted
  pub less : (k : Literal) → times roots.uses k ≤ times after.uses k + cond (eqb k l) 1 0
  pub same : roots.uses.counted ≤ place → after.uses ≡ roots.uses
  pub gone : place < visits roots.history →
      after.history.visited.items ≡ remove roots.history.visited.items place
  pub stays : visits roots.history ≤ place →
      after.history.visited.items ≡ roots.history.visited.items
  pub floor_is : after.history.floor ≡ roots.history.floor
  pub doubts_are : after.history.doubts ≡ roots.history.doubts

module _ {live : Clauses} {slot place : ℕ} {l : Literal} {lits : List Literal} {roots after : Roots}
    (given : IsTakenBack live slot place l lits roots after) where
  open given use {inside, stands, different, unit, absent, unneeded}

  abbrev out : List Literal
  out = remove lits place

  abbrev rest : Clauses
  rest = maps.remove live slot

  not_it : (k : Literal) → has out k ≡ true → k ≢ l
  not_it = grind (arith, none_left)

  -- ---- Watched clauses

  watched_out : (doubts : List ℕ) (done now trues trues_now : List Literal) →
      IsPart now done → ((k : Literal) → has trues k ≡ true → k ≢ l → has trues_now k ≡ true) →
      IsWatched (sure_of doubts (maps.get live)) done trues →
      IsWatched (sure_of doubts (maps.get rest)) now trues_now
  watched_out = grind (arith, was_there, absent)

  watched_front : (doubts : List ℕ) (d before p wide : ℕ) → IsFront place d before → IsFront place p wide → IsWatched (sure_of doubts (maps.get live)) (take before lits) (take wide lits) →
      IsWatched (sure_of doubts (maps.get rest)) (take d out) (take p out)
  watched_front = grind (arith, watched_out, front_was, front_still)

  -- ---- Visits

  -- a visit that is left, and the same one before
  record IsLeft (d i : ℕ) : Type 0 where
    within : i < visits roots.history
    front : IsFront place d i
    reach : trues_at after.history d ≡ trues_at roots.history i
    low : d ≤ i

  left : (d : ℕ) → d < visits after.history → (i : ℕ) × IsLeft d i
  left d low = elim (cases_lt place (visits roots.history)) [
    | inl cut ↦ elim (cases_lt d place) [
      | inl before ↦ (d, grind (arith, get_or-remove_below))
      | inr past ↦ (d + 1, grind (arith, length-remove, get_or-remove_above))
    ]
    | inr beyond ↦ (d, grind arith)
  ]

  module _ (doubts : List ℕ) where
    history_out : IsHistory (sure_of doubts (maps.get live)) roots.history lits →
        IsHistory (sure_of doubts (maps.get rest)) after.history out
    history_out history = record {
      inside = grind (arith, cases_lt, length-remove);
      began = λ d low. grind (arith, left d low, history.began);
      before = λ d p low at_most above within.
          let w = left d low in let up = front_before place p in
          watched_front doubts d w.0 p up.0 w.1.front up.1 (grind (arith, length-remove));
    }

    visited_out : IsWatched (sure_of doubts (maps.get live)) (take (visits roots.history) lits) lits →
        IsWatched (sure_of doubts (maps.get rest)) (take (visits after.history) out) out
    visited_out = grind (arith, watched_out, front_was, still_there, cases_lt, length-remove)

  -- ---- Unit clauses

  unit_out : (c : Clause) → ((m : Literal) → has c m ≡ true → m ≢ l) → HasUnit c lits → HasUnit c out
  unit_out (a ∷ []) others h = still_there lits place inside l stands a h (others a (has_head a []))
  unit_out c others h = search rules

  units_out : HaveUnits (maps.get live) lits → HaveUnits (maps.get rest) out
  units_out = grind (arith, unit_out, absent, was_there)

  known_out : (kept : Kept) → has_conflict kept ≡ false → IsKnown live kept lits → IsKnown rest kept out
  known_out All quiet known = (watched_out [] lits out lits out (grind (arith, was_true)) (grind (arith, still_there)) known.0, units_out known.1)
  known_out kept h h2 = grind (arith, units_out, true≢false)

  -- ---- Reasons

  not_the_slot : (k : Literal) (s : ℕ) → HasAt (shown live) k s → k ≢ l → s ≢ slot
  not_the_slot k s h ne e = grind (arith, seen_has_at live k s h, same_Some, has_cases, false≢true)

  abbrev reason_of : ReasonOf
  reason_of = at roots.reasons

  abbrev are : AreReasoned (shown live) reason_of lits
  are = given.kept.reasoned

  holds_it : (k : Literal) (s : ℕ) → has lits k ≡ true → k ≢ l → reason_of k ≡ Some s → (c : Clause) → shown live s ≡ Some c → shown rest s ≡ Some c
  holds_it = search (rules, arith, still_seen, not_the_slot, are.has_it)

  -- the reason of a literal behind doesn't need the one that is taken back
  not_complement : (m : Literal) (s : ℕ) (c : Clause) (q : ℕ) → place < q → q < length lits → get_or lits q 0 ≡ m → reason_of m ≡ Some s → shown live s ≡ Some c → (j : Literal) → has c j ≡ true → complement j ≢ l
  not_complement m s c q behind low stands_there is at j h e = let w = there_seen live s c at in grind (arith, complement-complement, unneeded q s w.0, true≢false)

  module _ (n : ℕ) (passes : Literal → Bool) (follows : FollowsReasons (shown rest) reason_of (take n out) passes) where
    abbrev or_it : Literal → Bool
    or_it k = eqb k l || passes k

    wide : (before : ℕ) × IsFront place n before
    wide = front_before place n

    -- how many of them stand before the place
    lower : (e : ℕ) × (e ≤ n) × (e ≤ place) × ((i : ℕ) → i < wide.0 → i < place → i < e)
    lower = grind (arith, cases_lt n place)

    low_other : (m : Literal) → has (take lower.0 lits) m ≡ true → m ≢ l
    low_other m h e = not_before lits place l inside stands different lower.0 lower.2 (rw e at h)

    follow_low : FollowsReasons (shown live) reason_of (take lower.0 lits) passes
    follow_low m s c h is at others =
        grind (arith, follows m s c, front_still _ _ inside _ stands _ _ wide.1 _ (front_in_front _ _ _ (grind arith) m h) (low_other m h), holds_it _ _ (front_part _ _ m h) (low_other m h) is c)

    follow_all : FollowsReasons (shown live) reason_of (take wide.0 lits) or_it
    follow_all m s c h is at others = elim (cases_eq m l) [
      | inl e ↦ or_left (eqb m l) (passes m) (eq-eqb m l e)
      | inr ne ↦
          let w = place_in_front _ _ _ h in
          or_right (eqb m l) (passes m) (elim (cases_lt w.0 place) [
            | inl before ↦ are.in_each lower.0 passes follow_low m (subst (λ x. has (take lower.0 lits) x ≡ true) w.3 (has_front _ _ _ (lower.3 w.0 w.1 before) w.2))
            | inr past ↦
                grind (arith, front_still, holds_it, front_part, or_cases, not_complement, eqb-true)
          ])
    ]

    all_pass : (k : Literal) → has (take n out) k ≡ true → passes k ≡ true
    all_pass = grind (arith, or_cases, are.in_each wide.0 or_it follow_all, front_was, not_it, front_part, eqb-true)

  pub reasoned_out : AreReasoned (shown rest) reason_of out
  reasoned_out = record {
    has_it = λ k s h is. let w = are.has_it k s (was_true lits place inside k h) is in record { clause = w.clause; at = grind (arith, was_true, holds_it, not_it); member = w.member };
    in_each = all_pass;
  }

  -- ---- All of it

  pub kept_out : IsKept rest after out
  kept_out = record {
    noted = rw given.reasons_are (noted_left live slot reason_of given.kept.noted);
    reasoned = rw given.reasons_are reasoned_out;
    known = rw given.kept_is (known_out roots.kept given.quiet given.kept.known);
    history = subst (λ ds. IsHistory (sure_of ds.items (maps.get rest)) after.history out)
        (sym given.doubts_are) (history_out roots.history.doubts.items given.kept.history);
    visited = λ _. simp (given.doubts_are, given.kept_is) (visited_out _ (given.kept.visited given.quiet));
    counted =
        rw given.reasons_are (counted_out lits place l given.inside given.stands given.different (maps.get live) (maps.get rest) reason_of roots.uses after.uses (grind arith) (λ k m. in_rest live slot k (reason_of m)) given.fewer given.less given.same given.kept.counted);
  }
