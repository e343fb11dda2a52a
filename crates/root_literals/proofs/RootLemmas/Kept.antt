-- What is kept where clauses come and go.
use Rattle.{cnf_base.proofs.MapLemmas.{remove_here, remove_other}, theory.specs.Propagation.Live}
use Rattle.cnf_base.proofs.SetLemmas.{has_append_left, has_append_right, has_head}
use Rattle.cnf_base.specs.Literals.{Clause, Literal, complement, has}
use Rattle.root_literals.proofs.RootLemmas.Reasons.{counted_among, counted_instead, counted_longer}
use Rattle.root_literals.proofs.RootLemmas.Reasons.{get_ordered, has-in_order, in_rest, in_rest_too}
use Rattle.root_literals.proofs.RootLemmas.Reasons.{reasoned_among, reasoned_cut, reasoned_instead}
use Rattle.root_literals.proofs.RootLemmas.Reasons.{reasoned_more, reasoned_same, reasoned_some}
use Rattle.root_literals.proofs.RootLemmas.Reasons.{reasoned_taken, seen_has_at, seen_there}
use Rattle.root_literals.proofs.RootLemmas.{Terms.{Clauses, ReasonOf, shown}, Watched.watched_none}
use Rattle.root_literals.proofs.RootLemmas.Watched.{front_part, history_cut, history_noted}
use Rattle.root_literals.proofs.RootLemmas.Watched.{history_one_more, watched_cut, watched_most}
use Rattle.root_literals.specs.History.{IsHistory, IsNoted, IsRewound, sure_of, visits}
use Rattle.root_literals.specs.{Order.in_order, Watched.{HasUnit, IsMet, IsPart, IsWatched}}
use Rattle.root_literals.specs.Roots.{AreNoted, AreReasoned, HasReasons, HaveUnits, IsArranged}
use Rattle.root_literals.specs.Roots.{IsKept, IsKnown, IsReasonAt, has_conflict, lacks_units}
use Rattle.root_literals.specs.{Roots.seen_of, Uses.{AreCounted, clause_in, is_in, times}}
use Rattle.root_literals.specs.declared.{history.History.History, roots.Roots.Roots}
use Rattle.root_literals.specs.declared.kept.Kept.{Kept, TheVariants.{WithUnits, WithoutUnits}}
use Rattle.root_literals.specs.declared.kept.Kept.TheVariants.{Conflict as KeptConflict, Conflict}
use Rattle.std.proofs.Common.{Bool, List, None, Option, Some, [], arith, cond, eqb, false, get_or}
use Rattle.std.proofs.Common.{inl, inr, length, length-append, refl, rules, take, take_all, true}
use Rattle.std.proofs.Common.{true≢false, ℕ, ◌++◌, ◌+◌, ◌<◌, ◌∙◌, ◌∷◌, ◌≡◌, ◌≢◌, ◌≤◌}
use Rattle.std.proofs.lemmas.{Bool.{cases_Bool, cases_eq, false≢true}, List.take-append-le}
use Rattle.{std.proofs.lemmas.Option.{none-some, same_Some}, trail.specs.Trail.HasNoVariableTwice}
use Rattle.{tables.specs.ByKey.at, watch_lists.proofs.WatchListsLemmas.Watched.watched_first}
use Rattle.trail.specs.declared.left.Left.{Left, TheVariants.{More, Nothing, One}}
use Rattle.std.specs.FinMap as maps

-- ---- One clause more

-- what the clause watches is met, where it is false
abbrev AreMet : Clause → List Literal → List Literal → Type 0
AreMet c done trues = (l : Literal) → has done (complement l) ≡ true → IsMet c l trues

module _ (live after : Live) (slot : ℕ) (c : Clause) (free : live slot ≡ None)
    (here : after slot ≡ Some c) (others : (s : ℕ) → s ≢ slot → after s ≡ live s) where
  watched_added : (done trues : List Literal) →
      IsWatched live done trues → AreMet c done trues → IsWatched after done trues
  watched_added = grind (arith, cases_eq, same_Some)

  -- where it is met unless it is doubtful, and no other one is that wasn't
  watched_sure_added : (doubts later : List ℕ) (done trues : List Literal) →
      ((s : ℕ) → s ≢ slot → has later s ≡ has doubts s) →
      (has later slot ≡ false → AreMet c done trues) →
      IsWatched (sure_of doubts live) done trues → IsWatched (sure_of later after) done trues
  watched_sure_added = search rules

  units_added : (trues : List Literal) → HaveUnits live trues → HasUnit c trues → HaveUnits after trues
  units_added = search rules

-- one literal is not false, stands first, and becomes true
unit_alone : (trues more : List Literal) (m : Literal) → has more m ≡ true → (c : Clause) →
    IsArranged trues c (One m) → HasUnit c more
unit_alone = search rules

-- ---- Another reason

-- a clause makes a literal true that another one made true before
pub record IsGivenReason (live : Clauses) (roots after : Roots) (lits : List Literal) (m slot : ℕ)
    (before : Clause) : Type 0 where
  pub kept : IsKept live roots lits
  pub kept_is : after.kept ≡ roots.kept
  pub history_is : after.history ≡ roots.history
  pub apart : HasNoVariableTwice lits
  pub by : IsReasonAt (maps.get live) slot lits m
  pub set : (k : Literal) → at after.reasons k ≡ cond (eqb k m) (Some slot) (at roots.reasons k)
  pub was : clause_in (maps.get live) (at roots.reasons m) ≡ Some before

module _ {live : Clauses} {roots after : Roots} {lits : List Literal} {m slot : ℕ}
    {before : Clause} (given : IsGivenReason live roots after lits m slot before) where
  open given use {kept, apart, by, set}

  kept_instead : AreCounted (maps.get live) (at after.reasons) lits after.uses → IsKept live after lits
  kept_instead counted = record {
    noted = grind arith;
    reasoned = reasoned_instead _ _ _ kept.reasoned _ m slot apart by_shown (grind (arith, set m))
        (grind (arith, set));
    known = rw given.kept_is kept.known;
    history = rw given.history_is kept.history;
    visited = grind arith;
    counted = counted;
  }
    where
      by_shown : IsReasonAt (shown live) slot lits m
      by_shown = record {
        clause = in_order by.clause;
        at = seen_there live slot by.clause by.at;
        member = has-in_order by.clause m ∙ by.member;
        place = by.place;
        inside = by.inside;
        stands = by.stands;
        others = grind (arith, has-in_order);
      }

  -- a copy of its unit clause
  pub kept_copy : before ≡ m ∷ [] → maps.get live slot ≡ Some (m ∷ []) → after.uses ≡ roots.uses →
      IsKept live after lits
  kept_copy alone copy same =
      kept_instead (rw same (counted_among _ _ _ _ _ _ kept.counted (grind (arith, cases_eq, set))))

  -- a clause of which the literals are counted in the place of those of the other
  pub kept_exchange : (d : Clause) → maps.get live slot ≡ Some d → (place : ℕ) →
      place < length lits → get_or lits place 0 ≡ m → (after.uses.counted ≢ 0 → after.uses.counted
      ≡ roots.uses.counted) → (after.uses.counted ≢ 0 → place < roots.uses.counted → (k : Literal) →
      times roots.uses k + cond (has d k) 1 0 ≤ times after.uses k + cond (has before k) 1 0) →
      (roots.uses.counted ≤ place → after.uses ≡ roots.uses) → IsKept live after lits
  kept_exchange d here place inside stands counted exchanged stays = kept_instead
      (counted_instead lits place m inside stands apart _ _ _ _ _ before d given.was
      (grind (arith, set m)) (grind (arith, set)) counted exchanged stays kept.counted)

-- ---- Fewer literals

pub kept_cut : (live : Clauses) (roots after : Roots) (lits now : List Literal) (place : ℕ) → IsKept live roots lits → place ≤ length lits → after.kept ≡ WithoutUnits → IsRewound roots.history after.history place → after.reasons ≡ roots.reasons → now ≡ take place lits →
    AreCounted (maps.get live) (at after.reasons) now after.uses → IsKept live after now
kept_cut live roots after lits now place kept inside cut rewound reasons is counted = record {
  noted = rw reasons kept.noted;
  reasoned = grind (arith, reasoned_cut);
  known = rw cut tt;
  history =
      grind (arith, cases_eq (visits after.history) 0, history_cut _ _ _ _ _ kept.history rewound inside);
  visited =
      grind (arith, cases_eq (visits after.history) 0, watched_none, watched_cut _ _ _ _ _ kept.history rewound inside);
  counted = counted;
}

-- nothing is kept any more
pub kept_nothing : (live : Clauses) (roots : Roots) (lits : List Literal) → AreNoted (shown live) (at roots.reasons) → roots.kept ≡ WithoutUnits → visits roots.history ≡ 0 → lits ≡ [] → roots.uses.counted ≡ 0 → IsKept live roots lits
kept_nothing = search rules

-- ---- One clause fewer

module _ (live : Clauses) (slot : ℕ) where
  pub was_there : (s : ℕ) (d : Clause) → maps.get (maps.remove live slot) s ≡ Some d → maps.get live s ≡ Some d
  was_there = grind (arith, cases_eq, none-some, remove_here, remove_other)

  was_seen : (s : ℕ) (d : Clause) → shown (maps.remove live slot) s ≡ Some d → shown live s ≡ Some d
  was_seen = grind (arith, cases_eq, none-some, remove_here, get_ordered, remove_other)

  pub still_seen : (s : ℕ) → s ≢ slot → (d : Clause) → shown live s ≡ Some d → shown (maps.remove live slot) s ≡ Some d
  still_seen = grind (arith, get_ordered, remove_other)

  pub noted_left : (reason_of : ReasonOf) → AreNoted (shown live) reason_of → AreNoted (shown (maps.remove live slot)) reason_of
  noted_left = grind (arith, was_seen)

  watched_left : (done trues : List Literal) → IsWatched (maps.get live) done trues → IsWatched (maps.get (maps.remove live slot)) done trues
  watched_left = grind (arith, was_there)

  -- where no other clause is doubtful that wasn't
  watched_sure_left : (doubts later : List ℕ) (done trues : List Literal) → ((s : ℕ) → s ≢ slot → has later s ≡ has doubts s) → IsWatched (sure_of doubts (maps.get live)) done trues → IsWatched (sure_of later (maps.get (maps.remove live slot))) done trues
  watched_sure_left = grind (arith, was_there, none-some, remove_here)

  -- nothing that is kept rests on it
  module _ (roots : Roots) (lits : List Literal)
      (kept : IsKept live roots lits) (c : Clause) (here : maps.get live slot ≡ Some c)
      (no_clash : roots.kept ≢ KeptConflict slot) (no_reason : (l : Literal) →
      has c l ≡ true → has lits l ≡ true → at roots.reasons l ≢ Some slot) where
    pub kept_left : (later : History) → later.visited ≡ roots.history.visited → later.floor ≡ roots.history.floor → ((s : ℕ) → s ≢ slot → has later.doubts.items s ≡ has roots.history.doubts.items s) → IsKept (maps.remove live slot) (record roots { history = later }) lits
    kept_left later visited_is floor_is others = record {
      noted = noted_left (at roots.reasons) kept.noted;
      reasoned = reasoned_among _ _ _ kept.reasoned _ (λ l s d member is at_s.
          still_seen _ (λ e. grind (arith, kept.reasoned.has_it l s member is, seen_there _ _ _ here, has-in_order c l, no_reason l)) _ at_s);
      known = grind (arith, was_there, watched_left, still_seen);
      history =
          history_noted _ _ _ _ _ visited_is
          (grind (arith, watched_sure_left)) kept.history;
      visited = grind (arith, watched_sure_left);
      counted = counted_among _ _ _ _ _ _ kept.counted (grind (arith, in_rest));
    }

-- ---- What is kept where a clause was added

only_one : (c : Clause) (m : Literal) → length c ≡ 1 → has c m ≡ true → (k : Literal) → has c k ≡ true → k ≡ m
only_one [] m one there k h = absurd (false≢true h)
only_one (a ∷ []) m one there k h = search rules
only_one (a ∷ b ∷ c) m one there k h = grind arith

-- a clause is entered into the slot, of which this is left, where the others are kept
pub record Entering (after : Clauses) (slot : ℕ) (c : Clause) (roots : Roots) (lits : List Literal) (left : Left) (later : History) : Type 0 where
  pub here : maps.get after slot ≡ Some c
  pub kept : IsKept (maps.remove after slot) roots lits
  pub reasons : HasReasons c (at roots.reasons)
  pub arranged : IsArranged lits c left
  pub is_doubtful : Bool
  pub small : is_doubtful ≡ false → left ≢ More → length c < 2
  pub visited_is : later.visited ≡ roots.history.visited
  pub noted_is : IsNoted roots.history later is_doubtful slot (length lits)

module _ {after : Clauses} {slot : ℕ} {c : Clause} {roots : Roots} {lits : List Literal} {left : Left} {later : History} (given : Entering after slot c roots lits left later) where
  abbrev before : Live
  before = maps.get (maps.remove after slot)

  noted : AreNoted (shown after) (at roots.reasons)
  noted = record { each = λ s d is l member. grind (arith, cases_eq s slot, given.reasons l, has-in_order c l, seen_there _ _ _ given.here, given.kept.noted.each s d, still_seen) }

  reasoned : AreReasoned (shown after) (at roots.reasons) lits
  reasoned = reasoned_among _ _ _ given.kept.reasoned _ (λ l s d h h2. was_seen after slot s d)

  -- the reasons are those of before
  same_in : (r : ReasonOf) (k l : Literal) → r l ≡ at roots.reasons l → has lits l ≡ true → is_in (clause_in (maps.get after) (r l)) k ≡ true → is_in (clause_in (maps.get (maps.remove after slot)) (at roots.reasons l)) k ≡ true
  same_in r k l same h there =
      in_rest_too _ _ _ _ (λ e. grind (arith, seen_has_at _ _ _ (given.kept.reasoned.has_it l slot h e), remove_here, none-some)) (rw (← same) there)

  same_counted : (r : ReasonOf) → ((l : Literal) → has lits l ≡ true → r l ≡ at roots.reasons l) → AreCounted (maps.get after) r lits roots.uses
  same_counted r same = counted_among _ _ _ _ _ _ given.kept.counted (grind (arith, same_in))

  units : (trues : List Literal) → HaveUnits before trues → HasUnit c trues → HaveUnits (maps.get after) trues
  units = search (rules, units_added, remove_here, remove_other)

  -- what was visited, after a cut or not
  seen : (b : Bool) (done trues : List Literal) → AreMet c done trues →
      IsWatched (sure_of (cond b roots.history.doubts.items []) before) done trues →
      IsWatched (sure_of (cond b later.doubts.items []) (maps.get after)) done trues
  seen true done trues met was = grind (arith, watched_sure_added, remove_here, remove_other)
  seen false done trues met was = search (rules, watched_added, remove_here, remove_other)

  history : IsHistory (sure_of later.doubts.items (maps.get after)) later lits
  history = elim (cases_eq (visits later) 0) [
    | inl none ↦ grind arith
    | inr some ↦ history_noted _ _ _ _ _ given.visited_is (grind (arith, watched_sure_added, remove_here, remove_other, front_part, cases_Bool given.is_doubtful)) given.kept.history
  ]

  -- nothing new follows from it
  settled : ((done : List Literal) → IsPart done lits → AreMet c done lits) → HasUnit c lits → (k : Kept) → IsKnown (maps.remove after slot) k lits → IsKnown after k lits
  settled met unit WithoutUnits known = known
  settled h h2 k h3 =
      search (rules, arith, units, watched_added, remove_here, remove_other, false≢true, was_seen)

  entered_settled : ((done : List Literal) → IsPart done lits → AreMet c done lits) →
      HasUnit c lits → (now : Roots) → now.kept ≡ roots.kept → now.history ≡ later →
      AreNoted (shown after) (at now.reasons) → AreReasoned (shown after) (at now.reasons) lits →
      AreCounted (maps.get after) (at now.reasons) lits now.uses → IsKept after now lits
  entered_settled = grind (arith, settled, history, seen, front_part)

  -- the reasons stay as they are
  module _ (now : Roots) (history_is : now.history ≡ later) (reasons_are : now.reasons ≡ roots.reasons) (uses_are : now.uses ≡ roots.uses) where
    still_counted : AreCounted (maps.get after) (at now.reasons) lits now.uses
    still_counted = rw (reasons_are, uses_are) (same_counted (at roots.reasons) (λ l _. refl))

    still_kept : IsKnown after now.kept lits → (has_conflict now.kept ≡ false → IsWatched (seen_of now (maps.get after)) (take (visits now.history) lits) lits) → IsKept after now lits
    still_kept known visited = record {
      noted = rw reasons_are noted;
      reasoned = rw reasons_are reasoned;
      known = known;
      history = rw history_is history;
      visited = visited;
      counted = still_counted;
    }

    pub entered_idle : has_conflict roots.kept ≡ true → now.kept ≡ roots.kept → IsKept after now lits
    entered_idle is kept_is = still_kept (grind (arith, false≢true, was_seen)) (grind arith)

    pub entered_more : IsArranged lits c More → now.kept ≡ roots.kept → IsKept after now lits
    entered_more first kept_is =
        entered_settled (grind (arith, false≢true, watched_first)) (search rules) now kept_is history_is (rw reasons_are noted) (rw reasons_are reasoned) still_counted

    pub entered_false : IsArranged lits c Nothing → now.kept ≡ Conflict slot → IsKept after now lits
    entered_false falses kept_is =
        still_kept (rw kept_is (record { clause = in_order c; at = seen_there after slot c given.here; falses = grind (arith, has-in_order) })) (grind arith)

  module _ (m : Literal) (first : IsArranged lits c (One m)) (now : Roots) (history_is : now.history ≡ later) (uses_are : now.uses ≡ roots.uses) where
    -- the literal is true already
    pub entered_true : has lits m ≡ true → now.kept ≡ roots.kept → ((k : Literal) → at now.reasons k ≡ at roots.reasons k) → IsKept after now lits
    entered_true is_true kept_is same =
        entered_settled (grind (arith, false≢true, has_head)) (unit_alone _ _ _ is_true _ first) _ kept_is history_is (record { each = λ s d is l member. grind (arith, same l, noted.each s d is l) })
        (grind (arith, reasoned_same, reasoned)) (rw uses_are (same_counted (at now.reasons) (λ l _. same l)))

    module _ (set : (k : Literal) → at now.reasons k ≡ cond (eqb k m) (Some slot) (at roots.reasons k)) where
      set_other : (l : Literal) → l ≢ m → at now.reasons l ≡ at roots.reasons l
      set_other = search rules

      -- and the clause has no other
      pub entered_taken : has lits m ≡ true → length c ≡ 1 → now.kept ≡ roots.kept → IsKept after now lits
      entered_taken is_true one kept_is =
          entered_settled (grind (arith, false≢true, has_head)) (unit_alone lits lits m is_true c first) now kept_is history_is (grind (arith, noted))
          (reasoned_taken _ _ _ reasoned _ m slot (in_order c) (seen_there _ _ _ given.here) (has-in_order c m ∙ first.0) (grind (arith, set m)) (grind (arith, only_one c m one, has-in_order)) set_other is_true)
          (rw uses_are (counted_among _ _ _ _ _ _ given.kept.counted (λ k l h there. grind (arith, cases_eq, by_reason, same_in, set_other))))
        where
          by_reason : (k : Literal) (o : Option ℕ) → at roots.reasons m ≡ o → is_in (clause_in (maps.get after) (at now.reasons m)) k ≡ true → is_in (clause_in (maps.get (maps.remove after slot)) (at roots.reasons m)) k ≡ true
          by_reason k None is there =
              grind (arith, reasoned_some (shown (maps.remove after slot)) (at roots.reasons) lits given.kept.reasoned m is_true)
          by_reason k (Some s) is there = grind (arith, seen_has_at (maps.remove after slot) m s, given.kept.reasoned.has_it m s, only_one)

      -- the literal becomes true
      pub entered_set : has_conflict roots.kept ≡ false → has lits m ≡ false → (more : List Literal) → now.kept ≡ cond (lacks_units roots.kept) WithoutUnits WithUnits → more ≡ lits ++ m ∷ [] → IsKept after now more
      entered_set quiet is_open more kept_is is = record {
        noted = grind (arith, noted);
        reasoned =
            rw is (reasoned_more _ _ _ reasoned _ _ _ _ (seen_there after slot c given.here) (has-in_order c m ∙ first.0) (grind (arith, set m)) (grind (arith, has-in_order)) as_before);
        known = grind (arith, grown_units, true≢false);
        history = rw (history_is, is) (grind (arith, history_one_more, length-append, begins, watched_most, grown_watched, history));
        visited = grind (arith, grown_watched);
        counted = rw (uses_are, is) (counted_longer _ _ lits _ (lits ++ m ∷ []) begins (grind (arith, length-append)) (same_counted (at now.reasons) as_before));
      }
        where
          as_before : (l : Literal) → has lits l ≡ true → at now.reasons l ≡ at roots.reasons l
          as_before l h = set_other l (grind (arith, true≢false))

          m_true : has (lits ++ m ∷ []) m ≡ true
          m_true = has_append_right lits (m ∷ []) m (has_head m [])

          begins : take (length lits) (lits ++ m ∷ []) ≡ lits
          begins = grind (arith, take-append-le, take_all)

          front : take (visits later) (lits ++ m ∷ []) ≡ take (visits later) lits
          front = take-append-le (visits later) lits (m ∷ []) history.inside

          grown_watched : IsWatched (sure_of (cond (lacks_units roots.kept) later.doubts.items []) (maps.get after)) (take (visits later) (lits ++ m ∷ [])) (lits ++ m ∷ [])
          grown_watched =
              search (rules, arith, front, seen, m_true, has_append_left)

          grown_units : HaveUnits before lits → HaveUnits (maps.get after) (lits ++ m ∷ [])
          grown_units known = units (lits ++ m ∷ []) (grind (arith, has_append_left))
              (unit_alone lits (lits ++ m ∷ []) m m_true c first)
