-- All that follows with nothing assumed, and the clauses that are reasons of root-level literals.
use Rattle.{clause_db.specs.Store.IsTouchedAt, cnf_base.proofs.LiteralLemmas.complement-complement}
use Rattle.cnf_base.proofs.{MapLemmas.{after_remove, remove_other}, WalkLemmas.{has_more, has_take}}
use Rattle.cnf_base.proofs.SetLemmas.{has_append_cases, has_append_right, has_cases, has_head}
use Rattle.{cnf_base.specs.Literals.{Clause, Literal, complement, has}, std.specs.FinMap.FinMap}
use Rattle.propagation.proofs.PropagationLemmas.Below.{below_none, below_some}
use Rattle.{propagation.specs.{Closure.IsWhole, Code.Closure.is_old}, std.specs.Ordering.nat_cmp}
use Rattle.propagation.specs.Code.Closure.{AreForced, FollowsFrom, IsFollowed, TakesIn, by_unit}
use Rattle.std.proofs.Common.{Bool, List, None, OnOk, Result, Some, [], ap, arith, eqb, eqb-true}
use Rattle.std.proofs.Common.{false, get_or, inl, inr, length, subst, sym, take, true, ℕ, ◌&&◌}
use Rattle.std.proofs.{Common.{◌++◌, ◌+◌, ◌<◌, ◌∙◌, ◌∷◌, ◌≡◌, ◌≢◌, ◌≤◌}, lemmas.Bool.true≢false}
use Rattle.std.proofs.lemmas.Bool.{and_parts, cases_Bool, cases_eq, false≢true, or_cases, or_left}
use Rattle.std.proofs.lemmas.{List.{take-take, take_all}, Option.same_Some, Result.on_ok_weaker}
use Rattle.theory.proofs.PropagationLemmas.{Forced.forced_unit, Open.{AreAll, open_has}}
use Rattle.theory.proofs.PropagationLemmas.Unit.{none_left_follow, one_left_follows}
use Rattle.theory.specs.{Code.Propagation.{IsClosedAt, OthersFail}, Propagation.{Forced, IsClosed}}
use Rattle.theory.specs.Propagation.{IsRootReason, Live, open_literals}
use Rattle.trail.proofs.TrailLemmas.Left.{more_differ, nothing_is, one_is, settled_at}
use Rattle.trail.{proofs.TrailLemmas.Longer.has_begun, specs.Left.{how_many, is_one_at_most}}
use Rattle.trail.specs.declared.left.Left.{Left, TheVariants.{More, Nothing, One}}
use Rattle.std.specs.FinMap as maps

pub follows_forced : (live : Live) (ls : List Literal) → AreForced live ls → (k : ℕ) (c : Clause)
    → live k ≡ Some c → (l : Literal) → FollowsFrom ls c l → Forced live [] l
follows_forced live ls h k c h2 l h3 = grind (arith, forced_unit)

-- ---- Reasons of root-level literals

module _ (live : Live) (trues : List Literal) (k : ℕ) (c : Clause) (at : live k ≡ Some c) where
  module _ (sound : (l : Literal) → has trues l ≡ true → Forced live [] l) where
    reason_from : (m : Literal) → has c m ≡ true → OthersFail (has trues) c m → IsRootReason live c
    reason_from m member others = grind (arith, forced_unit)

    pub reason_left : is_one_at_most (how_many (open_literals trues c)) c ≡ true
        → IsRootReason live c
    reason_left h = grind (arith, by_left)
      where
        by_left : (left : Left) → how_many (open_literals trues c) ≡ left → (d : Clause) → c ≡ d
            → is_one_at_most left d ≡ true → IsRootReason live c
        by_left More e d is h = absurd (false≢true h)
        by_left Nothing e [] is h = absurd (false≢true h)
        by_left (One m) e [] is h = absurd (false≢true h)
        by_left Nothing e (l ∷ d) is h = reason_from l (ap (λ x. has x l) is ∙ has_head l d) (none_left_follow trues c (nothing_is (open_literals trues c) e) l)
        by_left (One m) e (l ∷ d) is h = let w = one_left_follows trues c m (one_is (open_literals trues c) m e) in reason_from m w.0 w.1

  module _ (all : (l : Literal) → Forced live [] l → has trues l ≡ true) where
    open_alone : (r : IsRootReason live c) → AreAll (open_literals trues c) r.literal
    open_alone r l h = grind (arith, open_has trues c l h)

    pub no_reason_left : is_one_at_most (how_many (open_literals trues c)) c ≡ false
        → ¬ IsRootReason live c
    no_reason_left h r = grind (arith, by_left)
      where
        by_left : (left : Left) → how_many (open_literals trues c) ≡ left → (d : Clause) → c ≡ d
            → is_one_at_most left d ≡ false → ⊥
        by_left More e d is h = more_differ (open_literals trues c) e r.literal (open_alone r)
        by_left left h d h2 h3 = grind (arith, false≢true, true≢false)

-- ---- What a clause adds

module _ {E : Type 0} (ls now : List Literal) (c : Clause) (r : Result Unit E) where
  -- where none of its literals is left, all are added
  pub all_follow : how_many (open_literals ls c) ≡ Nothing
      → OnOk r ((l : Literal) → has now l ≡ has (ls ++ c) l)
      → OnOk r ((l : Literal) → has now l ≡ true → FollowsFrom ls c l)
  all_follow e = on_ok_weaker r (λ lits l h. elim (has_append_cases ls c l (sym (lits l) ∙ h)) [
    | inl old ↦ is_old old
    | inr member ↦ by_unit member (none_left_follow ls c (nothing_is (open_literals ls c) e) l)
  ])

  module _ (m : Literal) (e : how_many (open_literals ls c) ≡ One m) where
    -- where one is left, it is added
    pub one_follows : OnOk r ((l : Literal) → has now l ≡ has (ls ++ m ∷ []) l)
        → OnOk r ((l : Literal) → has now l ≡ true → FollowsFrom ls c l)
    one_follows = on_ok_weaker r (λ lits l h. elim (has_append_cases ls (m ∷ []) l (sym (lits l) ∙ h)) [
      | inl old ↦ is_old old
      | inr here ↦ elim (has_cases m [] l here) [
        | inl same ↦ let w = one_left_follows ls c m (one_is (open_literals ls c) m e) in subst (FollowsFrom ls c) same (by_unit w.0 w.1)
        | inr none ↦ absurd (false≢true none)
      ]
    ])

    -- where one is left, what follows by them is that one
    pub one_takes : OnOk r ((l : Literal) → has now l ≡ has (ls ++ m ∷ []) l)
        → OnOk r (TakesIn ls now c)
    one_takes = on_ok_weaker r (λ lits k member others.
        let w = open_has ls c m (one_is (open_literals ls c) m e).0 in
        grind (arith, cases_eq, has_append_right, has_head, true≢false))

pub more_is_closed : (ls : List Literal) (c : Clause) → how_many (open_literals ls c) ≡ More
    → IsClosedAt (has ls) c
more_is_closed ls c e = grind (arith, settled_at)

-- ---- More clauses are taken

-- what a clause gave by fewer literals stands among more
pub taken_in : (first ls now later : List Literal) (c : Clause) → ((l : Literal) → has first l ≡ true → has ls l ≡ true) → ((l : Literal) → has now l ≡ true → has later l ≡ true) → TakesIn ls now c → TakesIn first later c
taken_in first ls now later c within grows takes m member others = grind (arith, grows)

module _ (live : Live) (before now : List Literal) (n : ℕ) (so_far : (k : ℕ) (c : Clause) → k < n → live k ≡ Some c → TakesIn before now c) where
  pub all_none : None ≡ live n → (k : ℕ) (c : Clause) → k < n + 1 → live k ≡ Some c
      → TakesIn before now c
  all_none none = below_none live (TakesIn before now) n so_far none

  pub all_taken : (after : List Literal) → take (length before) now ≡ before
      → take (length now) after ≡ now → (d : Clause) → Some d ≡ live n → TakesIn now after d
      → (k : ℕ) (c : Clause) → k < n + 1 → live k ≡ Some c → TakesIn before after c
  all_taken after begins more d here takes = grind (arith, below_some, taken_in, has_begun)

module _ (live : Live) (before now after : List Literal) (begins : take (length before) now ≡ before) (more : take (length now) after ≡ now) (slots : List ℕ) (i : ℕ) (inside : i < length slots) (x : ℕ) (is : x ≡ get_or slots i x) where
  pub each_taken : ((s : ℕ) (c : Clause) → has (take i slots) s ≡ true → live s ≡ Some c
      → TakesIn before now c) → (d : Clause) → Some d ≡ live x → TakesIn now after d
      → (s : ℕ) (c : Clause) → has (take (i + 1) slots) s ≡ true → live s ≡ Some c
      → TakesIn before after c
  each_taken so_far d here takes s c h at = elim (or_cases (has (take i slots) s) (eqb x s) (sym (has_more slots i inside x is s) ∙ h)) [
    | inl old ↦ grind (arith, taken_in, has_begun)
    | inr e ↦ grind (arith, eqb-true, taken_in, has_begun)
  ]

-- ---- The clauses in which a literal is false were taken

module _ (live : FinMap nat_cmp Clause) (lits after : List Literal) (done : ℕ) (inside : done < length lits) (m : Literal) (is : m ≡ get_or lits done m) (begins : take (length lits) after ≡ lits) where
  grows : (l : Literal) → has lits l ≡ true → has after l ≡ true
  grows l = has_begun lits after l begins

  front_is : take (done + 1) after ≡ take (done + 1) lits
  front_is = grind (arith, take-take)

  done_is : (l : Literal) → has (take (done + 1) after) l ≡ true
      → has (take (done + 1) lits) l ≡ true
  done_is l h = ap (λ ls. has ls l) (sym front_is) ∙ h

  module _ (c : Clause) (so_far : TakesIn (take done lits) lits c) where
    taken_here : TakesIn lits after c → TakesIn (take (done + 1) after) after c
    taken_here = taken_in (take (done + 1) after) lits after after c (λ l h. has_take lits (done + 1) l (done_is l h)) (λ l h. h)

    taken_apart : has c (complement m) ≡ false → TakesIn (take (done + 1) after) after c
    taken_apart absent k member others = grows k (so_far k member (λ l h ne.
        elim (or_cases (has (take done lits) (complement l)) (eqb m (complement l)) (grind (arith, has_more, done_is))) [
          | inl old ↦ old
          | inr e ↦ grind (arith, true≢false, eqb-true, complement-complement)
        ]))

  module _ (so_far : IsFollowed (maps.get live) done lits) (slots : List ℕ) where
    -- nothing more follows from one literal further
    pub followed_more : AreForced (maps.get live) after
        → ((s : ℕ) → IsTouchedAt live (m ∷ []) s → has slots s ≡ true)
        → ((s : ℕ) (c : Clause) → has slots s ≡ true → maps.get live s ≡ Some c
        → TakesIn lits after c) → IsFollowed (maps.get live) (done + 1) after
    followed_more sound all takes = record {
      sound = sound;
      takes = λ k c at. elim (cases_Bool (has c (complement m))) [
        | inl here ↦ taken_here c (so_far.takes k c at) (takes k c (grind (arith, or_left)) at)
        | inr apart ↦ taken_apart c (so_far.takes k c at) apart
      ];
    }

-- nothing more follows from any of them
pub followed_whole : (live : Live) (done : ℕ) (lits : List Literal) → IsFollowed live done lits
    → length lits ≤ done → IsWhole live lits
followed_whole live done lits followed over = grind (arith, closed, false≢true)
  where
    closed : IsClosed live (has lits)
    closed = grind (arith, take_all)

-- ---- Clauses come and go

module _ (live : FinMap nat_cmp Clause) (slot : ℕ) where
  fewer_closed : (passes : Literal → Bool) → IsClosed (maps.get live) passes
      → IsClosed (maps.get (maps.remove live slot)) passes
  fewer_closed passes closed = grind (arith, after_remove)

  forced_grows : (l : Literal) → Forced (maps.get (maps.remove live slot)) [] l
      → Forced (maps.get live) [] l
  forced_grows l forced = record { in_each = λ passes closed start. forced.in_each passes (fewer_closed passes closed) start }

  module _ (c : Clause) (at : maps.get live slot ≡ Some c) (lits : List Literal) where
    -- a clause is added, and what follows by it
    module _ (whole : IsWhole (maps.get (maps.remove live slot)) lits) where
      pub added_forced : AreForced (maps.get live) lits
      added_forced l h = forced_grows l (whole.sound l h)

      pub added_followed : (next : List Literal)
          → ((l : Literal) → has next l ≡ true → FollowsFrom lits c l) → TakesIn lits next c
          → take (length lits) next ≡ lits → IsFollowed (maps.get live) (length lits) next
      added_followed next follows takes begins = record {
        sound = λ l h. follows_forced (maps.get live) lits added_forced slot c at l (follows l h);
        takes = λ k d here m member others.
            let known = λ (l : Literal) (h : has d l ≡ true) (ne : l ≢ m). ap (λ ls. has ls (complement l)) (sym begins) ∙ others l h ne in
            elim (cases_eq k slot) [
              | inl e ↦ grind arith
              | inr ne ↦
                  has_begun lits next m begins
                  (whole.all m (forced_unit _ [] k d (grind (arith, remove_other)) m member (λ l h apart. whole.sound (complement l) (known l h apart))))
            ];
      }

    -- a clause is removed that is no reason clause
    module _ (whole : IsWhole (maps.get live) lits) (no_reason : ¬ IsRootReason (maps.get live) c) where
      within_closed : (passes : Literal → Bool) → IsClosed (maps.get (maps.remove live slot)) passes
          → IsClosed (maps.get live) (λ x. has lits x && passes x)
      within_closed passes closed = record {
        unit = λ k d here m member others.
            let known = λ (l : Literal) (h : has d l ≡ true) (ne : l ≢ m). and_parts (has lits (complement l)) (passes (complement l)) (others l h ne) in
            let follows : has lits m ≡ true = whole.all m (grind arith) in
            elim (cases_eq k slot) [
              | inl e ↦ grind (arith, same_Some)
              | inr ne ↦ ap (λ b. b && passes m) follows ∙ closed.unit k d (grind (arith, remove_other)) m member (λ l h apart. (known l h apart).1)
            ];
      }

      pub removed_whole : IsWhole (maps.get (maps.remove live slot)) lits
      removed_whole = record {
        sound = λ l h. record {
          in_each = λ passes closed start.
              (and_parts (has lits l) (passes l)
              ((whole.sound l h).in_each (λ x. has lits x && passes x) (within_closed passes closed) (grind (arith, false≢true)))).1;
        };
        all = grind (arith, forced_grows);
      }

pub ruleset take_steps = (all_follow, more_is_closed)
