-- What is left of a clause: how many literals, and through one more literal.
use Rattle.{cnf_base.specs.Literals.{Clause, Literal, complement, has}, std.specs.List.list_all}
use Rattle.std.proofs.Common.{Bool, List, Some, [], append-nil, arith, cond, drop, eqb, false}
use Rattle.std.proofs.Common.{get_or, length, length-append, not, refl, rules, sym, take, true, ℕ}
use Rattle.std.proofs.{Common.{◌++◌, ◌+◌, ◌<◌, ◌∙◌, ◌∷◌, ◌≡◌}, lemmas.List.take-append-drop}
use Rattle.std.proofs.lemmas.List.{Elements.{filter-append, filter_more}, Folds.list_all-append}
use Rattle.theory.proofs.PropagationLemmas.Open.{AreAll, IsAlone, alone_first, first_alone}
use Rattle.theory.{proofs.PropagationLemmas.Open.open_has, specs.Code.Propagation.IsClosedAt}
use Rattle.theory.proofs.PropagationLemmas.Unit.{closed_quiet, true_closes, two_close}
use Rattle.theory.specs.{Propagation.{Clash, IsClosed, Live, open_literals}, Sets.conflicts}
use Rattle.trail.specs.Code.Left.{IsCount, IsSettled, with_one}
use Rattle.trail.specs.{Left.how_many, declared.left.Left.{Left, TheVariants.{More, Nothing, One}}}

nothing_one : (m : Literal) → Nothing ≡ One m → ⊥
nothing_one m e = cc

nothing_more : Nothing ≡ More → ⊥
nothing_more e = cc

one_more : (m : Literal) → One m ≡ More → ⊥
one_more m e = cc

-- ---- How many

pub nothing_is : (ls : List Literal) → how_many ls ≡ Nothing → ls ≡ []
nothing_is ls h = grind arith

pub one_is : (ls : List Literal) (m : Literal) → how_many ls ≡ One m → IsAlone ls m
one_is [] m e = absurd (nothing_one m e)
one_is (k ∷ ls) m e = by_test (list_all (λ l. eqb l k) ls) refl e
  where
    by_test : (b : Bool) → list_all (λ l. eqb l k) ls ≡ b → cond b (One k) More ≡ One m
        → IsAlone (k ∷ ls) m
    by_test true t e = grind (arith, first_alone k ls t)
    by_test false t e = absurd (one_more m (sym e))

-- more than one is left, so they are not all equal
pub more_differ : (ls : List Literal) → how_many ls ≡ More → (m : Literal) → ¬ AreAll ls m
more_differ [] e m same = nothing_more e
more_differ (k ∷ ls) e m same = one_more k (cc (alone_first k ls m same))

-- the literal that is left is one of the clause, and not false
pub left_open : (ls : List Literal) (c : Clause) (m : Literal)
    → One m ≡ how_many (open_literals ls c) → (has c m ≡ true) × (has ls (complement m) ≡ false)
left_open ls c m e = open_has ls c m (one_is (open_literals ls c) m (sym e)).0

-- ---- Where nothing new follows

module _ (trues : List Literal) (c : Clause) where
  by_left : (left : Left) → how_many (open_literals trues c) ≡ left → IsSettled trues left
      → IsClosedAt (has trues) c
  by_left Nothing e h = absurd h
  by_left (One l) e h = true_closes trues c l (one_is (open_literals trues c) l e).0 h
  by_left More e h = two_close trues c (more_differ (open_literals trues c) e)

  pub settled_at : IsSettled trues (how_many (open_literals trues c)) → IsClosedAt (has trues) c
  settled_at settled = grind (arith, by_left)

module _ (live : Live) (trues : List Literal) (settled : (k : ℕ) (c : Clause) → live k ≡ Some c → IsSettled trues (how_many (open_literals trues c))) where
  pub settled_closed : IsClosed live (has trues)
  settled_closed = search (rules, settled_at)

  -- where no two of the literals clash either, nothing does
  pub settled_quiet : (assumed : List Literal)
      → ((a : Literal) → has assumed a ≡ true → has trues a ≡ true) → conflicts trues ≡ false
      → Clash live assumed → ⊥
  settled_quiet assumed start quiet =
      closed_quiet live trues settled_closed (λ k at. settled k [] at) assumed start quiet

-- ---- One more literal

left_push : (ls : List Literal) (l : Literal) → how_many (ls ++ l ∷ []) ≡ with_one (how_many ls) l
left_push ls l = grind (arith, list_all-append)

more_stays : (xs ys : List Literal) → how_many xs ≡ More → how_many (xs ++ ys) ≡ More
more_stays xs ys h = grind (arith, list_all-append)

none_in : (ls : List Literal) → length ls ≡ 0 → ls ≡ []
none_in [] e = refl
none_in (l ∷ ls) e = absurd (let wrong : ⊥ = omega arith in wrong)

-- one turn: x is the literal, and t whether it is false
module _ (trues : List Literal) (c : Clause) (i : ℕ) (inside : i < length c) (x : Literal) (is : x ≡ get_or c i x) where
  next_open : (t : Bool) → has trues (complement x) ≡ t → open_literals trues (take (i + 1) c)
      ≡ open_literals trues (take i c) ++ cond (not t) (x ∷ []) []
  next_open t e = cc (filter_more (λ l. not (has trues (complement l))) c i x inside)

  pub left_with : has trues (complement x) ≡ false → (left next : Left)
      → left ≡ how_many (open_literals trues (take i c)) → next ≡ with_one left x
      → next ≡ how_many (open_literals trues (take (i + 1) c))
  left_with e left next so_far more =
      cc (next_open false e, left_push (open_literals trues (take i c)) x)

  -- more than one literal is left already
  pub left_ended : has trues (complement x) ≡ false → (left : Left) → left ≡ how_many (open_literals trues (take i c)) → with_one left x ≡ More → how_many (open_literals trues c) ≡ More
  left_ended e left so_far more =
      cc (take-append-drop (i + 1) c, filter-append (λ l. not (has trues (complement l))) (take (i + 1) c) (drop (i + 1) c), more_stays (open_literals trues (take (i + 1) c)) (open_literals trues (drop (i + 1) c)) (sym (left_with e left (with_one left x) so_far refl) ∙ more))

  -- one more literal is counted
  pub count_with : has trues (complement x) ≡ false → (n last : ℕ)
      → IsCount (open_literals trues (take i c)) n last
      → IsCount (open_literals trues (take (i + 1) c)) (n + 1) x
  count_with e n last so_far =
      let before = open_literals trues (take i c) in
      let more : open_literals trues (take (i + 1) c) ≡ before ++ x ∷ [] = next_open false e in
      grind (arith, length-append, none_in)

  pub count_same : has trues (complement x) ≡ true → (n last : ℕ)
      → IsCount (open_literals trues (take i c)) n last
      → IsCount (open_literals trues (take (i + 1) c)) n last
  count_same e n last so_far =
      let same : open_literals trues (take (i + 1) c) ≡ open_literals trues (take i c) =
      next_open true e ∙ append-nil _ in
      grind arith
