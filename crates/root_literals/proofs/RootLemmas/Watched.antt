-- Clauses of which a literal is true, and when the literals that are kept were propagated.
use Rattle.{cnf_base.proofs.LiteralLemmas.complement-complement, std.proofs.lemmas.Option.same_Some}
use Rattle.cnf_base.proofs.SetLemmas.{has_append_left, has_append_right, has_head}
use Rattle.cnf_base.specs.Literals.{Clause, Literal, complement, has}
use Rattle.root_literals.specs.{Code.Doubts.AreSettled, Watched.{HasUnit, IsMet, IsPart, IsWatched}}
use Rattle.root_literals.specs.{Code.Propagated.{AreFalse, IsUnit}, History.{sure_of, visits}}
use Rattle.root_literals.specs.{History.{IsHistory, IsRewound}, declared.history.History.History}
use Rattle.std.proofs.Common.{Bool, List, Option, Some, [], ap, arith, cond, drop, eq-eqb, false}
use Rattle.std.proofs.Common.{get_or, get_or-take, inl, inr, length, length-append, length-take-le}
use Rattle.std.proofs.Common.{not, refl, rules, sym, take, take-append-drop, take-take, take_all}
use Rattle.std.proofs.Common.{true, true≢false, ℕ, ◌++◌, ◌+◌, ◌<◌, ◌∙◌, ◌∷◌, ◌≡◌, ◌≤◌, ◌⊎◌}
use Rattle.{std.proofs.Math.Seq.get_or-append_seam, theory.specs.Propagation.{Live, open_literals}}
use Rattle.std.proofs.lemmas.{Bool.{cases_Bool, cases_eq, cases_lt, false≢true}, Grind.common_steps}
use Rattle.{std.proofs.lemmas.Bool.not-false, watch_lists.proofs.WatchListsLemmas.Entries.has_times}
use Rattle.std.proofs.lemmas.List.{get_or_append_left, take_more, Sums.get_or-le-sum_by}
use Rattle.theory.proofs.PropagationLemmas.Open.{open_cases, open_has}
use Rattle.trail.proofs.TrailLemmas.{Left.{nothing_is, one_is}, Longer.pushed_each}
use Rattle.trail.specs.{Left.how_many, declared.left.Left.TheVariants.{Nothing, One}}
use Rattle.watch_lists.specs.Watched.{IsUnitList, is_unit_or_empty, unit_for, watches}

pub met_more : (c : Clause) (l : Literal) (first second : List Literal) → IsPart first second → IsMet c l first → IsMet c l second
met_more = grind arith

pub met_unwatched : (c : Clause) (l : Literal) (trues : List Literal) → watches c l ≡ false → IsMet c l trues
met_unwatched = grind (arith, true≢false)

pub front_part : (n : ℕ) (trues : List Literal) → IsPart (take n trues) trues
front_part n trues l h = ap (λ ls. has ls l) (sym (take-append-drop n trues)) ∙ has_append_left (take n trues) (drop n trues) l h

-- one more literal is propagated
pub watched_more : (live : Live) (done now trues : List Literal) (p : Literal) → now ≡ done ++ p ∷ [] → IsWatched live done trues → ((s : ℕ) (c : Clause) → live s ≡ Some c → IsMet c (complement p) trues) → IsWatched live now trues
watched_more = grind (arith, common_steps, pushed_each, complement-complement)

-- ---- Clauses that are not doubtful

pub sure_by : (doubts : List ℕ) (live : Live) (s : ℕ) (c : Clause) → live s ≡ Some c → has doubts s ≡ false → sure_of doubts live s ≡ Some c
sure_by = grind arith

-- after a cut or not
pub watched_most : (live : Live) (doubts : List ℕ) (lacks_units : Bool) (done trues : List Literal) → IsWatched (sure_of (cond lacks_units doubts []) live) done trues → IsWatched (sure_of doubts live) done trues
watched_most live doubts true done trues watched = watched
watched_most live doubts false done trues watched = grind arith

-- ---- Fewer propagated literals

pub watched_part : (live : Live) (done other trues more : List Literal) → IsPart other done → IsPart trues more → IsWatched live done trues → IsWatched live other more
watched_part = search rules

pub front_in_front : (lits : List Literal) (d n : ℕ) → d ≤ n → IsPart (take d lits) (take n lits)
front_in_front lits d n low l h = front_part d (take n lits) l (rw take-take h)

-- ---- No visits

pub watched_none : (live : Live) (history : History) (lits : List Literal) → visits history ≡ 0 → IsWatched live (take (visits history) lits) lits
watched_none = search rules

-- ---- Other clauses

-- the same visits among other clauses, where what is known of them is, or no cut is told of
pub history_noted : (live after : Live) (history noted : History) (lits : List Literal) →
    noted.visited ≡ history.visited → ((noted.floor ≡ history.floor) × ((d p : ℕ) →
    IsWatched live (take d lits) (take p lits) → IsWatched after (take d lits) (take p lits)))
    ⊎ (noted.floor ≡ length lits) → IsHistory live history lits → IsHistory after noted lits
history_noted live after history noted lits visited either is =
    record { inside = grind arith; began = grind (arith, is.began); before = grind (arith, is.before) }

-- ---- More literals

module _ (live : Live) (history : History) (lits more : List Literal) (begins : take (length lits) more ≡ lits)
    (longer : length lits ≤ length more) (is : IsHistory live history lits) where
  -- where the literals before each visit are propagated among them
  history_on : ((d p : ℕ) → d < visits history → length lits < p → IsWatched live (take d more) (take p more)) → IsHistory live history more
  history_on past = record {
    inside = grind arith;
    began = is.began;
    before = λ d p low at_most above inside. grind (arith, cases_lt (length lits) p, take-take, past d p, is.before d p);
  }

  -- where the literals before the last visit are propagated among all
  pub history_longer : (n : ℕ) → visits history ≤ n + 1 → IsWatched live (take n lits) lits → IsHistory live history more
  history_longer n all watched = history_on (λ d p low past.
      watched_part _ _ _ _ _ (part d low) (λ l h. front_in_front more (length lits) p (omega (arith, past)) l (rw begins h)) watched)
    where
      part : (d : ℕ) → d < visits history → IsPart (take d more) (take n lits)
      part d low l h = front_in_front lits d n (omega (arith, low, all)) l
          (ap (λ ls. has ls l) (sym (sym (take-take d (length lits) more (omega (arith, low, is.inside))) ∙ ap (take d) begins)) ∙ h)

  -- one literal more, where those before the last visit are propagated with it
  pub history_one_more : length more ≡ length lits + 1 → IsWatched live (take (visits history) more) more → IsHistory live history more
  history_one_more one watched = history_on (grind (arith, watched_part, front_in_front, take_all))

-- the next visit begins, where those before are propagated among so many literals already and more
pub history_begun : (live : Live) (history begun : History) (lits : List Literal) (trues : ℕ) → visits history < length lits → visits history < trues → begun.visited.items ≡ history.visited.items ++ trues ∷ [] → begun.floor ≡ history.floor →
    ((p : ℕ) → trues ≤ p → p ≤ length lits → IsWatched live (take (visits history) lits) (take p lits)) → IsHistory live history lits → IsHistory live begun lits
history_begun live history begun lits trues fits low_enough pushed floor_is watched is = record {
  inside = grind (arith, length-append);
  began = λ d low. grind (arith, cases_eq d (visits history), length-append, get_or_append_left, get_or-append_seam, is.began d);
  before = λ d p low at_most above inside. grind (arith, cases_eq d (visits history), length-append, get_or_append_left, get_or-append_seam, is.before d p, watched p);
}

-- ---- Fewer literals

pub rewound_none : {history now : History} → IsRewound history now 0 → visits now ≡ 0
rewound_none = search rules

module _ (live : Live) (history now : History) (lits : List Literal) (place : ℕ) (is : IsHistory live history lits) (rewound : IsRewound history now place) (inside : place ≤ length lits) where
  pub history_cut : IsHistory live now (take place lits)
  history_cut = grind (arith, cases_eq, length-take-le, get_or-take, take-take)

  pub watched_cut : IsWatched live (take (visits now) (take place lits)) (take place lits)
  watched_cut = grind (arith, watched_none, length-take-le, take-take, cases_eq (visits now) 0)

-- ---- One clause

-- a literal that is set where it was open is true
pub set_by : (before after : List Literal) (l : Literal) (is_open : Bool) → is_open ≡ not (has before l) → after ≡ cond is_open (before ++ l ∷ []) before → has after l ≡ true
set_by = grind (arith, has_append_right, has_head, not-false)

-- ---- The list

module _ (live : Live) (slots : List ℕ) (listed : IsUnitList live slots) where
  pub units_alive : (place : ℕ) → place < length slots → (c : Clause) × (live (get_or slots place 0) ≡ Some c) × (is_unit_or_empty c ≡ true)
  units_alive place inside = by_clause (live (get_or slots place 0)) refl (grind (arith, get_or-le-sum_by, eq-eqb))
    where
      by_clause : (o : Option Clause) → live (get_or slots place 0) ≡ o → 0 < unit_for o → (c : Clause) × (live (get_or slots place 0) ≡ Some c) × (is_unit_or_empty c ≡ true)
      by_clause o is h = grind (arith, true≢false)

  pub all_units : (trues : List Literal) (place : ℕ) → length slots ≤ place → ((s : ℕ) → has (take place slots) s ≡ true → (c : Clause) → live s ≡ Some c → HasUnit c trues) →
      (s : ℕ) (c : Clause) → live s ≡ Some c → HasUnit c trues
  all_units trues place past set s c is = elim (cases_Bool (is_unit_or_empty c)) [ inl e ↦ set s (grind (arith, take_all, has_times)) c is | inr e ↦ grind (arith, true≢false) ]

-- one more unit is set
pub units_more : (live : Live) (slots : List ℕ) (place : ℕ) (trues more : List Literal) → place < length slots → IsPart trues more → (l : Literal) → live (get_or slots place 0) ≡ Some (l ∷ []) → has more l ≡ true →
    ((s : ℕ) → has (take place slots) s ≡ true → (c : Clause) → live s ≡ Some c → HasUnit c trues) → (s : ℕ) → has (take (place + 1) slots) s ≡ true → (c : Clause) → live s ≡ Some c → HasUnit c more
units_more = grind (arith, common_steps, pushed_each, take_more, same_Some)

-- ---- Looks at doubtful clauses

-- what is left of a clause
pub left_unit : (ls : List Literal) (c : Clause) (m : Literal) → One m ≡ how_many (open_literals ls c) → IsUnit ls c m
left_unit ls c m e = grind (arith, one_is (open_literals ls c) m (sym e), open_has, open_cases)

pub left_false : (ls : List Literal) (c : Clause) → Nothing ≡ how_many (open_literals ls c) → AreFalse ls c
left_false ls c e k h = grind (arith, open_cases ls c k h, false≢true, nothing_is)

-- one more slot
pub settled_more : (live : Live) (slots : List ℕ) (place : ℕ) → place < length slots → (first before now : List Literal) → IsPart first before → IsPart before now → AreSettled live (take place slots) first before →
    AreSettled live (get_or slots place 0 ∷ []) before now → AreSettled live (take (place + 1) slots) first now
settled_more live slots place inside first before now within more so_far last s among c is l h =
    pushed_each (λ x. (d : Clause) → live x ≡ Some d → IsMet d l now) (take place slots) (get_or slots place 0) (λ x g d there. met_more d l before now more (so_far x g d there l h))
    (λ d there. last (get_or slots place 0) (has_head (get_or slots place 0) []) d there l (within (complement l) h)) s (ap (λ xs. has xs s) (sym (take_more slots place 0 inside)) ∙ among) c is
