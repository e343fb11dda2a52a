-- What is kept of the literals that are true, past a propagation and where more follows.
use Rattle.{clause_db.specs.Store.is_tautology, std.proofs.lemmas.{Bool.or_right, List.take_more}}
use Rattle.cnf_base.proofs.LiteralLemmas.{complement-complement, complement-other}
use Rattle.cnf_base.proofs.SetLemmas.{any_some, has_append_cases, has_cases, has_head, has_tail}
use Rattle.{cnf_base.proofs.SizeLemmas.distinct_parts, propagation.specs.Code.Closure.AreForced}
use Rattle.cnf_base.specs.Literals.{Clause, Literal, complement, has, size}
use Rattle.propagation.proofs.PropagationLemmas.Exact.{extends_made, extends_on}
use Rattle.propagation.specs.Assumptions.{Assumption, AssumptionsState, roots_in}
use Rattle.root_literals.proofs.RootLemmas.Reasons.{counted_in_order, counted_longer, has-in_order}
use Rattle.root_literals.proofs.RootLemmas.Reasons.{reasoned_more, reasoned_same, seen_there}
use Rattle.root_literals.proofs.RootLemmas.{Reasons.there_seen, Terms.{Clauses, ReasonOf, shown}}
use Rattle.root_literals.proofs.RootLemmas.Watched.{front_in_front, front_part, history_longer}
use Rattle.root_literals.proofs.RootLemmas.Watched.{watched_more, watched_most, watched_part}
use Rattle.root_literals.specs.{Code.Doubts.AreSettled, Watched.{HasUnit, IsMet, IsPart, IsWatched}}
use Rattle.root_literals.specs.{Code.Propagated.{CanSet, PropagatesTo}, declared.kept.Kept.Kept}
use Rattle.root_literals.specs.History.{HasGrown, IsHistory, sure_of, visits}
use Rattle.root_literals.specs.{Order.{each_in_order, in_order}, declared.history.History.History}
use Rattle.root_literals.specs.Roots.{HaveUnits, IsFalseAt, IsKept, IsKnown, IsStanding}
use Rattle.root_literals.specs.Roots.{has_conflict, is_up_to_date, seen_of}
use Rattle.root_literals.specs.declared.kept.Kept.TheVariants.{All, Conflict as KeptConflict}
use Rattle.root_literals.specs.declared.{kept.Kept.TheVariants.WithoutUnits, roots.Roots.Roots}
use Rattle.std.proofs.Common.{Bool, List, Some, [], ap, arith, cond, eq-eqb, eqb, eqb-true, false}
use Rattle.std.proofs.Common.{get_or, inl, inr, is_some, length, not, refl, rules, sym, take}
use Rattle.std.proofs.Common.{take-take, take_all, true, true≢false, ℕ, ◌&&◌, ◌++◌, ◌+◌, ◌/◌, ◌<◌}
use Rattle.{std.proofs.Common.{◌∙◌, ◌∷◌, ◌≡◌, ◌≢◌, ◌≤◌, ◌⊎◌}, trail.specs.Trail.HasNoVariableTwice}
use Rattle.std.proofs.lemmas.Bool.{cases_Bool, cases_eq, false_from_ne_true, false≢true, or_left}
use Rattle.{tables.specs.ByKey.at, watch_lists.proofs.WatchListsLemmas.Watched.watches_first}
use Rattle.theory.proofs.PropagationLemmas.Conflicts.{conflict_from, conflicts_more}
use Rattle.theory.proofs.PropagationLemmas.Forced.{clash_by_false, forced_assumed, forced_through}
use Rattle.theory.{proofs.PropagationLemmas.Forced.forced_unit, specs.Sets.{SameSet, conflicts}}
use Rattle.theory.specs.Propagation.{Clash, Forced, IsClosed, Live, by_both, by_empty}
use Rattle.trail.proofs.TrailLemmas.{Longer.has_begun, MakesFalse.no_conflict}
use Rattle.watch_lists.specs.Watched.{is_unit_or_empty, unit_for}
use Rattle.std.specs.FinMap as maps

-- the unit rule of one clause
clause_closed : (c : Clause) (trues : List Literal) → size c ≡ length c → HasUnit c trues →
    ((l : Literal) → has trues (complement l) ≡ true → IsMet c l trues) →
    ((l : Literal) → has trues l ≡ true → has trues (complement l) ≡ true → ⊥) →
    (m : Literal) → has c m ≡ true →
    ((l : Literal) → has c l ≡ true → l ≢ m → has trues (complement l) ≡ true) → has trues m ≡ true
clause_closed [] trues different unit met apart m member others = absurd unit
clause_closed (a ∷ []) trues different unit met apart m member others = grind (arith, has_cases, false≢true)
clause_closed (a ∷ b ∷ c) trues different unit met apart m member others = elim (cases_Bool (is_tautology (a ∷ b ∷ c))) [
  | inl both ↦ let w = any_some (λ l. has (a ∷ b ∷ c) (complement l)) (a ∷ b ∷ c) both in
      search (rules, arith, cases_eq, complement-complement, complement-other, apart)
  | inr none ↦
      let a_b = (distinct_parts a (b ∷ c) different).0 in
      grind (arith, cases_eq, has_cases, has_tail, has_head, watches_first, eq-eqb, or_left, or_right, apart)
]

-- a unit in another order
pub unit_alike : (c d : Clause) (trues : List Literal) → is_unit_or_empty d ≡ is_unit_or_empty c → ((l : Literal) → has d l ≡ has c l) → HasUnit c trues → HasUnit d trues
unit_alike (a ∷ c) [] trues units alike unit = grind (arith, has_head a c, alike a)
unit_alike (b ∷ []) (a ∷ []) trues units alike unit = grind (arith, has_cases, has_head, false≢true)
unit_alike c d trues units alike unit = search (rules, true≢false)

module _ (live : Clauses) (trues : List Literal) (different : (s : ℕ) (c : Clause) →
    maps.get live s ≡ Some c → size c ≡ length c) (units : HaveUnits (maps.get live) trues)
    (watched : IsWatched (maps.get live) trues trues) (quiet : conflicts trues ≡ false) where
  apart : (l : Literal) → has trues l ≡ true → has trues (complement l) ≡ true → ⊥
  apart = grind (arith, true≢false, conflict_from)

  pub all_closed : IsClosed (shown live) (λ l. has trues l)
  all_closed = record { unit = λ k d at m member others. let w = there_seen live k d at in clause_closed w.0 trues (different k w.0 w.1) (units k w.0 w.1) (watched.each k w.0 w.1) apart m (grind arith) (grind arith) }

  no_empty : (c : Clause) → ((l : Literal) → has c l ≡ false) → HasUnit c trues → ⊥
  no_empty [] none h = h
  no_empty (a ∷ c) none h = grind (arith, has_head a c, none a)

  pub all_quiet : (assumed : List Literal) → ((a : Literal) → has assumed a ≡ true → has trues a ≡ true) → Clash (shown live) assumed → ⊥
  all_quiet assumed start (by_empty k at) = let w = there_seen live k [] at in no_empty w.0 (λ l. sym (w.2 l)) (units k w.0 w.1)
  all_quiet assumed start (by_both l f g) = grind (arith, apart, all_closed)

-- the units are those of the clauses in another order too
units_carried : (before after : Clauses) (trues : List Literal) → each_in_order after ≡ each_in_order before → ((s : ℕ) → unit_for (maps.get after s) ≡ unit_for (maps.get before s)) → HaveUnits (maps.get before) trues → HaveUnits (maps.get after) trues
units_carried before after trues same listed units s c is =
    let seen = ap (λ m. maps.get m s) (sym same) ∙ seen_there after s c is in
    grind (arith, seen_there, there_seen, unit_alike, has-in_order)

-- ---- What is up to date

-- a clash is one
pub kept_clash : (live : Clauses) (kept : Kept) (lits : List Literal) → has_conflict kept ≡ true → AreForced (shown live) lits → IsKnown live kept lits → Clash (shown live) []
kept_clash live (KeptConflict slot) lits clash forced known =
    clash_by_false (shown live) [] slot known.clause known.at (grind arith)
kept_clash live kept lits h h2 h3 = grind (arith, false≢true)

-- what isn't up to date has nothing assumed
pub nothing_stands : (kept : Kept) (assumptions : List Assumption) → IsStanding kept assumptions → is_up_to_date kept ≡ false → assumptions ≡ []
nothing_stands = grind (arith, true≢false)

pub not_clash : (kept : Kept) → is_up_to_date kept ≡ false → has_conflict kept ≡ false
not_clash = grind (arith, true≢false)

pub roots_alone : (lits : List Literal) (assumptions : List Assumption) (starts : List ℕ) → assumptions ≡ [] → roots_in lits assumptions starts ≡ lits
roots_alone = grind arith

pub roots_part : (lits : List Literal) (assumptions : List Assumption) (starts : List ℕ) → IsPart (roots_in lits assumptions starts) lits
roots_part lits (last ∷ rest) (start ∷ starts) l h =
    front_part _ _ l (roots_part (take start lits) rest _ _ h)
roots_part lits assumptions starts l h = grind arith

-- where all is kept that follows with nothing assumed
module _ (live : Clauses) (roots : Roots) (trues lits : List Literal) (part : IsPart trues lits)
    (different : (s : ℕ) (c : Clause) → maps.get live s ≡ Some c → size c ≡ length c)
    (apart : HasNoVariableTwice lits) (kept : IsKept live roots trues)
    (up : is_up_to_date roots.kept ≡ true) (quiet : has_conflict roots.kept ≡ false) where
  known : IsWatched (maps.get live) trues trues × HaveUnits (maps.get live) trues
  known = grind (arith, false≢true, true≢false)

  no_conflict_kept : conflicts trues ≡ false
  no_conflict_kept = grind (arith, false_from_ne_true, true≢false, conflicts_more, no_conflict)

  pub all_forced : (l : Literal) → Forced (shown live) [] l → has trues l ≡ true
  all_forced l forced = forced.in_each (has trues)
      (all_closed _ _ different known.1 known.0 no_conflict_kept) (grind arith)

  pub no_clash : Clash (shown live) [] → ⊥
  no_clash = all_quiet _ _ different known.1 known.0 no_conflict_kept [] (grind arith)

-- ---- What visits leave

module _ (a b : Clauses) (x y : AssumptionsState) (r s : ReasonOf) (carried : PropagatesTo a b x y r s) where
  -- there still is room for literals
  pub can_set_on : CanSet a x r → CanSet b y s
  can_set_on = grind arith

  -- a clause that became false
  pub clash_from : (slot : ℕ) → IsFalseAt (shown b) slot y.trail.lits → Clash (shown a) x.trail.lits
  clash_from slot false_at =
      clash_by_false (shown a) x.trail.lits slot false_at.clause (grind arith) (grind arith)

  known_carried : (kept : Kept) (lits : List Literal) → IsPart lits x.trail.lits → IsKnown a kept lits → IsKnown b kept lits
  known_carried All lits part known = (carried.kept [] lits lits part part known.0, grind (arith, units_carried))
  known_carried kept lits h h2 = grind (arith, units_carried)

  front_carried : (doubts : List ℕ) (lits : List Literal) → IsPart lits x.trail.lits → (d p : ℕ) → IsWatched (sure_of doubts (maps.get a)) (take d lits) (take p lits) → IsWatched (sure_of doubts (maps.get b)) (take d lits) (take p lits)
  front_carried = grind (arith, front_part)

  pub history_carried : (doubts : List ℕ) (history : History) (lits : List Literal) → IsPart lits x.trail.lits → IsHistory (sure_of doubts (maps.get a)) history lits → IsHistory (sure_of doubts (maps.get b)) history lits
  history_carried = grind (arith, front_carried)

  pub visited_carried : (doubts : List ℕ) (n : ℕ) (lits : List Literal) → IsPart lits x.trail.lits → IsWatched (sure_of doubts (maps.get a)) (take n lits) lits → IsWatched (sure_of doubts (maps.get b)) (take n lits) lits
  visited_carried = grind (arith, front_part)

  -- ---- What is kept where more follows

  -- the literals of the units are true at the end of a propagation, if they were before it
  pub units_kept : HaveUnits (maps.get a) x.trail.lits → HaveUnits (maps.get b) y.trail.lits
  units_kept units = units_carried _ _ _ carried.same carried.units (grind (arith, has_begun))

  pub visited_grown : (doubts : List ℕ) (n : ℕ) → n ≤ length x.trail.lits → IsWatched (sure_of doubts (maps.get a)) (take n x.trail.lits) x.trail.lits → IsWatched (sure_of doubts (maps.get b)) (take n y.trail.lits) y.trail.lits
  visited_grown = grind (arith, watched_part, take-take, has_begun, visited_carried)

  pub history_grown : (doubts : List ℕ) (history : History) (n : ℕ) → visits history ≤ n + 1 → IsWatched (sure_of doubts (maps.get a)) (take n x.trail.lits) x.trail.lits → IsHistory (sure_of doubts (maps.get a)) history x.trail.lits →
      IsHistory (sure_of doubts (maps.get b)) history y.trail.lits
  history_grown = search (rules, history_longer, visited_carried, history_carried)

  -- one more literal was visited
  pub visited_more : (done : ℕ) → done < length x.trail.lits →
      IsWatched (maps.get a) (take done x.trail.lits) x.trail.lits → ((k : ℕ) (c : Clause) →
      maps.get b k ≡ Some c → IsMet c (complement (get_or x.trail.lits done 0)) y.trail.lits) →
      IsWatched (maps.get b) (take (done + 1) y.trail.lits) y.trail.lits
  visited_more done inside watched met =
      watched_more _ _ _ _ _ (grind (arith, take-take, take_more))
      (watched_part _ _ _ _ _ (λ l h. h) (grind (arith, has_begun)) (visited_carried [] done _ (λ l h. h) watched)) met

-- the same literals are kept, by the same reasons
pub kept_carried : (a b : Clauses) (x y : AssumptionsState) (roots after : Roots)
    (lits : List Literal) → PropagatesTo a b x y (at roots.reasons) (at after.reasons) →
    after ≡ record roots { reasons = after.reasons } →
    IsPart lits x.trail.lits → IsKept a roots lits → IsKept b after lits
kept_carried a b x y roots after lits carried is part kept = let kept_is = ap (λ r. r.kept) is in
    let history_is = ap (λ r. r.history) is in record {
      noted = grind arith;
      reasoned = grind (arith, reasoned_same);
      known = rw kept_is (known_carried _ _ _ _ _ _ carried _ _ part kept.known);
      history = rw history_is (history_carried _ _ _ _ _ _ carried _ _ _ part kept.history);
      visited = search (rules, visited_carried);
      counted = rw (ap (λ r. r.uses) is)
          (counted_in_order _ _ _ _ _ _ carried.same (grind arith) kept.counted);
    }

-- what was kept still is, and what follows from it, where the rest is so
pub kept_grown : (a b : Clauses) (x y : AssumptionsState) (roots now : Roots) → PropagatesTo a b x y (at roots.reasons) (at now.reasons) → IsKept a roots x.trail.lits → IsKnown b now.kept y.trail.lits →
    IsHistory (sure_of now.history.doubts.items (maps.get b)) now.history y.trail.lits → (has_conflict now.kept ≡ false → IsWatched (seen_of now (maps.get b)) (take (visits now.history) y.trail.lits) y.trail.lits) → now.uses ≡ roots.uses → IsKept b now y.trail.lits
kept_grown a b x y roots now carried kept known history visited uses_are = record {
  noted = grind arith;
  reasoned = grind arith;
  known = known;
  history = history;
  visited = visited;
  counted = rw uses_are (search (rules, counted_longer, counted_in_order));
}

-- where each doubtful clause is met
all_sure : (live : Live) (doubts : List ℕ) (done trues : List Literal) → AreSettled live doubts done trues → IsWatched (sure_of doubts live) done trues → IsWatched live done trues
all_sure live doubts done trues met watched = record { each = λ s c is. grind (arith, cases_Bool (has doubts s), met s, watched.each s c) }

module _ (live : Clauses) (x y : AssumptionsState) (roots now : Roots) (carried : PropagatesTo live live x y (at roots.reasons) (at now.reasons)) (kept : IsKept live roots x.trail.lits) where
  -- more literals are kept, by clauses that stay as they are
  pub kept_started : has_conflict roots.kept ≡ false → now.history ≡ roots.history → IsKnown live now.kept y.trail.lits → now.uses ≡ roots.uses →
      (has_conflict now.kept ≡ false → IsWatched (seen_of now (maps.get live)) (take (visits now.history) y.trail.lits) y.trail.lits) → IsKept live now y.trail.lits
  kept_started quiet same known uses_are seen = kept_grown _ _ _ _ _ _ carried kept known (grind (arith, history_grown, watched_most)) seen uses_are

  -- what was visited is propagated to all clauses, where each doubtful one is met
  pub settled_all : has_conflict roots.kept ≡ false → AreSettled (maps.get live) roots.history.doubts.items x.trail.lits y.trail.lits → IsWatched (maps.get live) (take (visits roots.history) y.trail.lits) y.trail.lits
  settled_all quiet settled =
      all_sure (maps.get live) roots.history.doubts.items (take (visits roots.history) y.trail.lits) y.trail.lits (grind (arith, front_part, take-take)) (grind (arith, visited_grown, watched_most))

  -- and is kept
  pub kept_settled : roots.kept ≡ WithoutUnits → now.kept ≡ roots.kept → now.history ≡ roots.history → now.uses ≡ roots.uses → IsKept live now y.trail.lits
  kept_settled cut kept_is history_is uses_are =
      kept_started (ap has_conflict cut) history_is (grind arith) uses_are (grind (arith, visited_grown))

-- all that was visited is propagated among all literals
pub begun_again : (b : Clauses) (doubts : List ℕ) (n : ℕ) (lits : List Literal) (trues : ℕ) → trues ≡ length lits → IsWatched (maps.get b) (take n lits) lits → (p : ℕ) → trues ≤ p → p ≤ length lits → IsWatched (sure_of doubts (maps.get b)) (take n lits) (take p lits)
begun_again = grind (arith, take_all)

-- what was visited among the literals of before is propagated among those of now
pub begun_from : (live : Clauses) (roots now : Roots) (before after : List Literal) → IsKept live roots before → has_conflict roots.kept ≡ false → (visits now.history ≡ 0) ⊎ HasGrown roots.history now.history before after → (p : ℕ) → length before ≤ p → p ≤ length after →
    IsWatched (sure_of now.history.doubts.items (maps.get live)) (take (visits now.history) after) (take p after)
begun_from live roots now before after kept quiet grown p low inside = elim grown [
  | inl none ↦ search rules
  | inr same ↦ search (rules, arith, watched_part, take-take, front_in_front, watched_most)
]

-- ---- Room

-- there is room for a literal of a clause, and for its reason
pub room_for : {live : Clauses} {held : AssumptionsState} {reason_of : ReasonOf} → CanSet live held reason_of → (slot : ℕ) (c : Clause) → maps.get live slot ≡ Some c → (m : Literal) → has c m ≡ true →
    (has held.trail.reserved (m / 2) ≡ true) × (is_some (reason_of m) ≡ true)
room_for {live} can slot c here m member =
    let shown = seen_there live slot c here in grind (arith, has-in_order)

-- ---- What propagation leaves as it was

pub propagates_none : (live : Clauses) (held : AssumptionsState) (reason_of : ReasonOf) → PropagatesTo live live held held reason_of reason_of
propagates_none = grind (arith, forced_assumed, take_all)

pub propagates_on : (a b c : Clauses) (x y z : AssumptionsState) (r s t : ReasonOf) → PropagatesTo a b x y r s → PropagatesTo b c y z s t → PropagatesTo a c x z r t
propagates_on a b c x y z r s t first second = record {
  same = second.same ∙ first.same;
  units = λ s. second.units s ∙ first.units s;
  kept = λ doubts done trues p q w. second.kept _ _ _ (grind (arith, has_begun)) (grind (arith, has_begun)) (first.kept doubts done trues p q w);
  sound = grind (arith, forced_through);
  extends = grind (arith, extends_on);
  noted = λ l h. second.noted l (first.noted l h);
  as_before = grind (arith, has_begun);
  reasoned = grind arith;
}

-- a literal that is not false was set by the clause in a slot, unless it was true already
pub record IsSet (held after : AssumptionsState) (reason_of reason_now : ReasonOf) (m slot : ℕ)
    (is_open : Bool) : Type 0 where
  pub was_open : is_open ≡ not (has held.trail.lits m)
  pub lits : after.trail.lits ≡ cond is_open (held.trail.lits ++ m ∷ []) held.trail.lits
  pub reserved : SameSet after.trail.reserved held.trail.reserved
  pub assumptions : after.assumptions ≡ held.assumptions
  pub starts : after.starts ≡ held.starts
  pub reasons : (k : Literal) → reason_now k ≡ cond (is_open && eqb k m) (Some slot) (reason_of k)

-- a clause
module _ (live : Clauses) (held : AssumptionsState) (slot : ℕ) (c : Clause) (here : maps.get live slot ≡ Some c) where
  -- the literal m alone isn't false, and becomes true
  module _ (m : Literal) (member : has c m ≡ true) (others : (k : Literal) → has c k ≡ true → k ≢ m → has held.trail.lits (complement k) ≡ true) where
    m_forced : Forced (shown live) held.trail.lits m
    m_forced = forced_unit _ _ _ _ (seen_there _ _ _ here) _ (has-in_order c m ∙ member) (grind (arith, forced_assumed, has-in_order))

    pub propagates_unit : (after : AssumptionsState) (is_open : Bool)
        (reason_of reason_now : ReasonOf) → IsSet held after reason_of reason_now m slot is_open →
        PropagatesTo live live held after reason_of reason_now
    propagates_unit after is_open reason_of reason_now set = record {
      same = refl;
      units = λ s. refl;
      kept = λ doubts done trues p q w. w;
      sound = λ l h. grind (arith, cases_Bool is_open, has_append_cases, forced_assumed, m_forced);
      extends = extends_made held after m is_open set.was_open set.lits set.reserved set.assumptions set.starts;
      noted = λ l h. grind (arith, set.reasons l);
      as_before = as_before;
      reasoned = λ are. elim (cases_Bool is_open) [
        | inl e ↦ rw (set.lits, e) (reasoned_more _ _ _ are _ m slot (in_order c) (seen_there live slot c here) (has-in_order c m ∙ member) (grind (arith, set.reasons m, e)) (grind (arith, has-in_order)) as_before)
        | inr e ↦ rw (set.lits, e) (reasoned_same _ _ _ are _ as_before)
      ];
    }
      where
        as_before : (l : Literal) → has held.trail.lits l ≡ true → reason_now l ≡ reason_of l
        as_before l h = grind (arith, set.reasons l, eqb-true l m)

  pub clashes : ((k : Literal) → has c k ≡ true → has held.trail.lits (complement k) ≡ true) → IsFalseAt (shown live) slot held.trail.lits
  clashes falses =
      record { clause = in_order c; at = seen_there _ _ _ here; falses = grind (arith, has-in_order) }
