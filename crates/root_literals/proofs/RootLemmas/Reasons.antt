-- Clauses in order are the same sets, and literals follow from their reasons.
use Rattle.{clause_db.specs.Store.{IsTouchedAt, literals_in}, cnf_base.proofs.SizeLemmas.size_same}
use Rattle.cnf_base.proofs.{LiteralLemmas.complement-complement, SetLemmas.{has_head, same_from}}
use Rattle.cnf_base.proofs.MapLemmas.{get_insert, get_remove, inserted_is, remove_here}
use Rattle.cnf_base.proofs.{MapLemmas.{remove_other, same_maps}, MemberLemmas.place_in_front}
use Rattle.cnf_base.proofs.SetLemmas.{both_pass, complements_has, filter_has, has-complements}
use Rattle.cnf_base.proofs.SetLemmas.{has-filter, has_append_left, has_append_right, has_cases}
use Rattle.cnf_base.specs.Literals.{Clause, Literal, complement, complements, has, same_clause}
use Rattle.{cnf_base.specs.{Literals.size, Maps.sum_over}, std.specs.Cmp.nat_cmp_total}
use Rattle.{propagation.specs.Assumptions.HasAt, std.specs.FinMap.{is_sorted, Entries.below_all}}
use Rattle.root_literals.proofs.RootLemmas.{Terms.{Clauses, ReasonOf, shown}, Watched.front_part}
use Rattle.root_literals.specs.{Order.{each_in_order, in_order, set_of}, declared.uses.Uses.Uses}
use Rattle.root_literals.specs.Roots.{AreReasoned, FollowsReasons, IsReasonAt}
use Rattle.root_literals.specs.Uses.{AreCounted, clause_in, is_in, times, uses_of}
use Rattle.std.proofs.Common.{Bool, List, Option, Some, [], ap, arith, cond, eqb, eqb-true, false}
use Rattle.std.proofs.Common.{filter, get_or, inl, inr, is_lt, is_some, length, length-append}
use Rattle.std.proofs.Common.{length-take, length-take-le, map, nat_cmp, option_map, refl, remove}
use Rattle.std.proofs.Common.{rules, suc, sum_by, sym, take, take-take, take_all, true, true≢false}
use Rattle.std.{proofs.Common.{zero, ℕ, ◌++◌, ◌+◌, ◌<◌, ◌∙◌, ◌∷◌, ◌≡◌, ◌≢◌, ◌≤◌}, specs.FinMap.find}
use Rattle.std.proofs.lemmas.Bool.{cases_eq, cases_lt, false≢true, or_right, Decides.nat_tests}
use Rattle.std.proofs.lemmas.{Grind.common_steps, List.{take-append-le, Sums.sum_by-cons}}
use Rattle.std.proofs.lemmas.{List.{take_more, Edits.length-remove}, Option.{none-some, same_Some}}
use Rattle.{theory.specs.Propagation.{Forced, Live}, trail.specs.Trail.HasNoVariableTwice}
use Rattle.trail.proofs.TrailLemmas.{Longer.pushed_each, Truth.places_apart, Without.none_left}
use Rattle.std.specs.FinMap as maps

-- ---- One clause

in_set : (c : Clause) (l : Literal) → is_some (maps.get (set_of c) l) ≡ has c l
in_set [] l = ap is_some (maps.get-empty nat_cmp l)
in_set (k ∷ c) l = grind (arith, nat_tests, maps.get-insert nat_cmp_total (set_of c) k tt l, in_set c l)

-- the same literals
pub has-in_order : (c : Clause) (l : Literal) → has (in_order c) l ≡ has c l
has-in_order c l = grind (arith, nat_tests, maps.contains_key-keys (set_of c) l, in_set c l)

pub same-in_order : (c : Clause) → same_clause (in_order c) c ≡ true
same-in_order = grind (arith, same_from, has-in_order)

pub size-in_order : (c : Clause) → size (in_order c) ≡ size c
size-in_order = grind (arith, size_same, has-in_order)

-- clauses with the same literals are shown alike
pub alike_in_order : (c d : Clause) → ((l : Literal) → has c l ≡ has d l) → in_order c ≡ in_order d
alike_in_order c d alike = ap maps.keys (same_maps _ _
    (λ l. grind (arith, in_set c l, in_set d l, alike l, true≢false)))

-- ---- All clauses

abbrev ordered : List (ℕ × Clause) → List (ℕ × Clause)
ordered es = map (λ e. (e.0, in_order e.1)) es

below_ordered : (k : ℕ) (es : List (ℕ × Clause)) → below_all nat_cmp k (ordered es) ≡ below_all nat_cmp k es
below_ordered k [] = refl
below_ordered k (e ∷ es) = grind (arith, is_lt, below_ordered k es)

sorted_ordered : (es : List (ℕ × Clause)) → is_sorted nat_cmp (ordered es) ≡ is_sorted nat_cmp es
sorted_ordered [] = refl
sorted_ordered (e ∷ es) = grind (arith, below_ordered, sorted_ordered es)

find_ordered : (q : ℕ) (es : List (ℕ × Clause)) → find nat_cmp q (ordered es) ≡ option_map in_order (find nat_cmp q es)
find_ordered q [] = refl
find_ordered q (e ∷ es) = grind (arith, find_ordered q es)

pub get_ordered : (live : Clauses) (s : ℕ) → shown live s ≡ option_map in_order (maps.get live s)
unfolding each_in_order
get_ordered = grind (arith, maps.get-from_sorted, sorted_ordered, maps.entries_sorted, find_ordered, option_map, maps.get-entries)

module _ (w v : Clause → ℕ) (alike : (c : Clause) → w (in_order c) ≡ v c) where
  weights_ordered : (es : List (ℕ × Clause)) →
      sum_by w (map (λ e. e.1) (ordered es)) ≡ sum_by v (map (λ e. e.1) es)
  weights_ordered [] = refl
  weights_ordered (e ∷ es) = grind (arith, sum_by-cons, weights_ordered es)

  pub sum_ordered : (live : Clauses) → sum_over w (each_in_order live) ≡ sum_over v live
  unfolding each_in_order
  sum_ordered = grind (arith, sum_by, map, maps.entries-from_sorted, sorted_ordered, maps.entries_sorted, weights_ordered)

pub literals_ordered : (live : Clauses) → literals_in (each_in_order live) ≡ literals_in live
literals_ordered = sum_ordered size size size-in_order

-- ---- Changes

pub ordered_empty : each_in_order maps.empty ≡ maps.empty
ordered_empty = grind (arith, same_maps, get_ordered, option_map, maps.get-empty)

module _ (live : Clauses) (s : ℕ) where
  pub ordered_remove : each_in_order (maps.remove live s) ≡ maps.remove (each_in_order live) s
  ordered_remove = grind (arith, same_maps, get_ordered, get_remove)

  -- a clause that is put in the place of one with the same literals isn't seen
  pub ordered_same : (c d : Clause) → maps.get live s ≡ Some c → ((l : Literal) → has d l ≡ has c l) → each_in_order (maps.insert live s d) ≡ each_in_order live
  ordered_same = grind (arith, same_maps, get_ordered, get_insert, eqb-true, alike_in_order)

  -- ---- Look-ups

  pub seen_there : (c : Clause) → maps.get live s ≡ Some c → shown live s ≡ Some (in_order c)
  seen_there = grind (arith, get_ordered)

  pub there_seen : (d : Clause) → shown live s ≡ Some d → (c : Clause) × (maps.get live s ≡ Some c) × ((l : Literal) → has d l ≡ has c l)
  there_seen = grind (arith, get_ordered, none-some, same_Some, has-in_order)

  pub alive_alike : is_some (shown live s) ≡ is_some (maps.get live s)
  alive_alike = grind (arith, get_ordered)

  pub alive_clause : is_some (maps.get live s) ≡ true → (c : Clause) × (maps.get live s ≡ Some c)
  alive_clause = search rules

pub seen_has_at : (live : Clauses) (l : Literal) (s : ℕ) → HasAt (shown live) l s → HasAt (maps.get live) l s
seen_has_at = search (rules, there_seen)

pub touched_seen : (live : Clauses) (lits : List Literal) (s : ℕ) → IsTouchedAt live lits s → IsTouchedAt (each_in_order live) lits s
touched_seen live lits s h = search (rules, seen_there, has-in_order)

pub seen_touched : (live : Clauses) (lits : List Literal) (s : ℕ) → IsTouchedAt (each_in_order live) lits s → IsTouchedAt live lits s
seen_touched = search (rules, there_seen)

-- the literals of the clause in a slot were put in another order
pub ordered_alike : (live after : Clauses) (slot : ℕ) (c d : Clause) → maps.get live slot ≡ Some c → maps.get after slot ≡ Some d → ((l : Literal) → has d l ≡ has c l) → ((s : ℕ) → s ≢ slot → maps.get after s ≡ maps.get live s) → each_in_order after ≡ each_in_order live
ordered_alike live after slot c d here there alike others = ap each_in_order (grind (arith, inserted_is)) ∙ ordered_same _ _ _ _ here alike

-- ---- Parts

pub part_alike : (keeps : Literal → Bool) (c d : Clause) → ((l : Literal) → has c l ≡ has d l) → (l : Literal) → has (complements (filter keeps c)) l ≡ has (complements (filter keeps d)) l
part_alike keeps c d alike l = both_pass _ _ (there c d alike l) (there d c (λ k. sym (alike k)) l)
  where
    there : (c d : Clause) → ((l : Literal) → has c l ≡ has d l) → (l : Literal) → has (complements (filter keeps c)) l ≡ true → has (complements (filter keeps d)) l ≡ true
    there c d alike l h =
        let w = filter_has keeps c (complement l) (complements_has (filter keeps c) l h) in
        let kept = has-filter keeps d (complement l) (sym (alike (complement l)) ∙ w.0) w.1 in
        cc (complement-complement l, has-complements (filter keeps d) (complement l) kept)

-- ---- Literals that follow from their reasons

-- no literal stands before its place
pub not_before : (lits : List Literal) (place : ℕ) (l : Literal) → place < length lits → get_or lits place 0 ≡ l → HasNoVariableTwice lits → (n : ℕ) → n ≤ place → has (take n lits) l ≡ true → ⊥
not_before lits place l inside stands apart n low member = let w = place_in_front lits n l member in
    places_apart lits apart w.0 place (omega arith) inside (grind arith)

module _ (live : Live) (reason_of : ReasonOf) (lits : List Literal) (are : AreReasoned live reason_of lits) where
  in_all : (passes : Literal → Bool) → FollowsReasons live reason_of lits passes → (l : Literal) → has lits l ≡ true → passes l ≡ true
  in_all passes follows l member =
      grind (arith, are.in_each (length lits) passes, take_all)

  pub reasoned_forced : (l : Literal) → has lits l ≡ true → Forced live [] l
  reasoned_forced l member =
      record { in_each = λ passes closed start. in_all _ (λ k s c there is at others. closed.unit s c at k (grind (arith, are.has_it k s there is)) others) _ member }

  -- each has one
  pub reasoned_some : (l : Literal) → has lits l ≡ true → is_some (reason_of l) ≡ true
  reasoned_some = in_all (λ k. is_some (reason_of k)) (λ k s c there is _ _. ap is_some is)

  -- the same reasons
  pub reasoned_same : (reason_now : ReasonOf) → ((l : Literal) → has lits l ≡ true → reason_now l ≡ reason_of l) → AreReasoned live reason_now lits
  reasoned_same reason_now same = record {
    has_it = grind (arith, are.has_it);
    in_each = λ n passes follows. are.in_each n passes (grind (arith, follows, front_part));
  }

  -- other clauses, among which all reasons are
  pub reasoned_among : (after : Live) → ((l : Literal) (s : ℕ) (c : Clause) → has lits l ≡ true → reason_of l ≡ Some s → live s ≡ Some c → after s ≡ Some c) → AreReasoned after reason_of lits
  reasoned_among after among = record {
    has_it = λ l s member is. grind (arith, are.has_it l s member is, among l s);
    in_each = λ n passes follows. are.in_each n passes (grind (arith, front_part));
  }

  -- the first of them
  pub reasoned_cut : (place : ℕ) → AreReasoned live reason_of (take place lits)
  reasoned_cut place = record {
    has_it = grind (arith, front_part);
    in_each = λ n passes. elim (cases_lt n place) [
      | inl low ↦ rw (take-take n place lits (omega (arith, low))) (are.in_each n passes)
      | inr past ↦ rw (take_all n (take place lits) (grind (arith, length-take))) (are.in_each place passes)
    ];
  }

  -- one more literal, which a clause makes true
  module _ (reason_now : ReasonOf) (m : Literal) (slot : ℕ) (c : Clause) (there : live slot ≡ Some c) (m_there : has c m ≡ true) (set : reason_now m ≡ Some slot) where
    pub reasoned_more : ((k : Literal) → has c k ≡ true → k ≢ m → has lits (complement k) ≡ true) → ((l : Literal) → has lits l ≡ true → reason_now l ≡ reason_of l) → AreReasoned live reason_now (lits ++ m ∷ [])
    reasoned_more others same = record {
      has_it = λ l s member is.
          pushed_each (λ k. (n : ℕ) → reason_now k ≡ Some n → HasAt live k n) lits m (grind (arith, are.has_it)) (grind (arith, same_Some)) l member s is;
      in_each = λ n passes. elim (cases_lt (length lits) n) [
        | inl past ↦ rw (take_all n (lits ++ m ∷ []) (grind (arith, length-append))) (λ follows l member.
            let so_far = in_all passes (grind (arith, follows, has_append_left)) in
            pushed_each (λ k. passes k ≡ true) lits m so_far (grind (arith, follows m slot c, has_append_right, has_head)) l member)
        | inr within ↦ rw (take-append-le n lits (m ∷ []) within) (λ follows. are.in_each n passes (grind (arith, follows, front_part)))
      ];
    }

    -- a clause of this literal alone takes over
    pub reasoned_taken : ((k : Literal) → has c k ≡ true → k ≡ m) → ((l : Literal) → l ≢ m → reason_now l ≡ reason_of l) → has lits m ≡ true → AreReasoned live reason_now lits
    reasoned_taken alone same m_true = record {
      has_it = grind (arith, cases_eq, same_Some);
      in_each = λ n passes follows.
          are.in_each n passes (grind (arith, cases_eq));
    }

  -- another clause makes a literal true, by those that stand before it
  module _ (reason_now : ReasonOf) (m : Literal) (slot : ℕ) (apart : HasNoVariableTwice lits) (by : IsReasonAt live slot lits m) (set : reason_now m ≡ Some slot) (same : (l : Literal) → l ≢ m → reason_now l ≡ reason_of l) where
    from_front : (n : ℕ) (passes : Literal → Bool) → FollowsReasons live reason_now (take n lits) passes → has (take n lits) m ≡ true → passes m ≡ true
    from_front n passes follows member = let before = not_before lits by.place m by.inside by.stands apart in elim (cases_lt by.place n) [
      | inl low ↦ follows m slot by.clause member set by.at (λ k h ne. are.in_each by.place passes (λ l s c there is at others. grind (arith, follows l s c, take-take by.place n lits, front_part by.place (take n lits) l, same l, before by.place)) (complement k) (by.others k h ne))
      | inr past ↦ absurd (before n past member)
    ]

    pub reasoned_instead : AreReasoned live reason_now lits
    reasoned_instead = record {
      has_it = grind (arith, cases_eq, same_Some);
      in_each = λ n passes follows. are.in_each n passes (λ l s d member is at others. grind (arith, cases_eq l m, from_front _ _ follows, follows l s d, same l));
    }

-- ---- How many of the literals have a reason with a literal

-- one, if the clause has the literal
abbrev pub one : Option Clause → Literal → ℕ
one o k = cond (is_in o k) 1 0

-- ---- A list of literals

-- the same literals, whose reasons have no other literals than before
pub uses_at_most : (before after : Live) (r s : ReasonOf) (k : Literal) (lits : List Literal) → ((l : Literal) → has lits l ≡ true → is_in (clause_in after (s l)) k ≡ true → is_in (clause_in before (r l)) k ≡ true) →
    uses_of after s lits k ≤ uses_of before r lits k
uses_at_most before after r s k [] among = omega arith
uses_at_most before after r s k (l ∷ lits) among = grind (arith, has_head, has_cases, uses_at_most before after r s k lits (grind (arith, or_right)))

module _ (live : Live) (r : ReasonOf) (k : Literal) where
  -- one literal more
  pub uses_more : (lits : List Literal) (l : Literal) → uses_of live r (lits ++ l ∷ []) k ≡ uses_of live r lits k + one (clause_in live (r l)) k
  uses_more [] l = omega arith
  uses_more (m ∷ lits) l = omega (arith, uses_more lits l)

  -- none of them
  pub uses_none : (lits : List Literal) → uses_of live r lits k ≡ 0 → (l : Literal) → has lits l ≡ true → is_in (clause_in live (r l)) k ≡ false
  uses_none [] none l h = absurd (false≢true h)
  uses_none (m ∷ lits) none l h = grind (arith, has_cases m lits l h, uses_none lits)

  -- one of them is taken out
  pub uses_out : (lits : List Literal) (n place : ℕ) → place ≤ n → n < length lits → uses_of live r (take n (remove lits place)) k + one (clause_in live (r (get_or lits place 0))) k ≡ uses_of live r (take (suc n) lits) k
  uses_out (l ∷ lits) (suc n) (suc place) low within = grind (arith, uses_out lits n place)
  uses_out lits n place h h2 = search (rules, arith)

-- ---- What is counted

-- the same reasons, or others that have no other literals
pub counted_among : (before after : Live) (r s : ReasonOf) (lits : List Literal) (uses : Uses) →
    AreCounted before r lits uses →
    ((k l : Literal) → has lits l ≡ true → is_in (clause_in after (s l)) k ≡ true →
    is_in (clause_in before (r l)) k ≡ true) → AreCounted after s lits uses
counted_among = grind (arith, uses_at_most, front_part)

module _ (live : Live) (r : ReasonOf) (lits : List Literal) (uses : Uses) where
  -- the same counts
  pub counted_same : (now : Uses) → now.counted ≡ uses.counted → ((k : Literal) → times now k ≡ times uses k) → AreCounted live r lits uses → AreCounted live r lits now
  counted_same = search rules

  -- more literals
  pub counted_longer : (more : List Literal) → take (length lits) more ≡ lits → length lits ≤ length more → AreCounted live r lits uses → AreCounted live r more uses
  counted_longer = search (rules, take-take)

-- ---- A place

module _ (lits : List Literal) (place : ℕ) (l : Literal) (inside : place < length lits) (stands : get_or lits place 0 ≡ l) (different : HasNoVariableTwice lits) where
  -- another reason
  pub counted_instead : (live : Live) (r s : ReasonOf) (uses now : Uses) (before after : Clause) → clause_in live (r l) ≡ Some before → clause_in live (s l) ≡ Some after → ((m : Literal) → m ≢ l → s m ≡ r m) →
      (now.counted ≢ 0 → now.counted ≡ uses.counted) → (now.counted ≢ 0 → place < uses.counted → (k : Literal) → times uses k + cond (has after k) 1 0 ≤ times now k + cond (has before k) 1 0) → (uses.counted ≤ place → now ≡ uses) →
      AreCounted live r lits uses → AreCounted live s lits now
  counted_instead live r s uses now before after was is same counted exchanged stays are =
      grind (arith, cases_eq, cases_lt, behind, uses_at_most, not_before lits place l inside stands different)
    where
      behind : now.counted ≢ 0 → place < uses.counted → (k : Literal) → uses_of live s (take now.counted lits) k ≤ times now k
      behind some low k = by_count uses.counted refl
        where
          by_count : (n : ℕ) → uses.counted ≡ n → uses_of live s (take now.counted lits) k ≤ times now k
          by_count zero e = absurd (omega arith)
          by_count (suc n) e =
              let fewer = uses_at_most live live r s k (take n (remove lits place)) (λ m h. grind (arith, same m, none_left, front_part)) in
              let split = uses_out live r k lits n place (omega arith) (grind arith) in
              let split_now = uses_out live s k lits n place (omega arith) (grind arith) in
              grind (arith, counted some, exchanged some low k, are.enough k)

  -- the literal is taken back, whose reason has no other
  pub counted_out : (live rest : Live) (r : ReasonOf) (uses now : Uses) → clause_in live (r l) ≡ Some (l ∷ []) → ((k m : Literal) → is_in (clause_in rest (r m)) k ≡ true → is_in (clause_in live (r m)) k ≡ true) →
      (place < uses.counted → now.counted + 1 ≡ uses.counted) → ((k : Literal) → times uses k ≤ times now k + cond (eqb k l) 1 0) → (uses.counted ≤ place → now ≡ uses) → AreCounted live r lits uses → AreCounted rest r (remove lits place) now
  counted_out live rest r uses now unit among fewer less stays are =
      grind (arith, cases_lt, length-remove, behind, uses_at_most, length-take-le, take-append-le, take-take)
    where
      behind : place < uses.counted → (k : Literal) → uses_of rest r (take now.counted (remove lits place)) k ≤ times now k
      behind low k = let e = fewer low in let within = are.inside in
          let most = uses_at_most live rest r r k (take now.counted (remove lits place)) (λ m _. among k m) in
          let split = uses_out live r k lits now.counted place (omega (arith, low, e)) (omega (arith, within, e)) in
          let next : suc now.counted ≡ uses.counted = omega (arith, e) in grind (arith, less k, are.enough k, eqb-true, has_head)

-- ---- Clauses

module _ (live : Clauses) (slot : ℕ) where
  -- one clause fewer
  pub in_rest : (k : Literal) (o : Option ℕ) → is_in (clause_in (maps.get (maps.remove live slot)) o) k ≡ true → is_in (clause_in (maps.get live) o) k ≡ true
  in_rest = grind (arith, cases_eq, false≢true, remove_here, remove_other)

  pub in_rest_too : (k : Literal) (o : Option ℕ) → o ≢ Some slot → is_in (clause_in (maps.get live) o) k ≡ true → is_in (clause_in (maps.get (maps.remove live slot)) o) k ≡ true
  in_rest_too = search (rules, remove_other)

-- the order of literals in a clause is nothing to it
in_ordered : (live : Clauses) (k : Literal) (o : Option ℕ) → is_in (clause_in (shown live) o) k ≡ is_in (clause_in (maps.get live) o) k
in_ordered = grind (arith, get_ordered, has-in_order)

pub counted_in_order : (a b : Clauses) (r s : ReasonOf) (lits : List Literal) (uses : Uses) → each_in_order b ≡ each_in_order a → ((l : Literal) → has lits l ≡ true → s l ≡ r l) → AreCounted (maps.get a) r lits uses → AreCounted (maps.get b) s lits uses
counted_in_order a b r s lits uses same reasons are = counted_among _ _ _ _ _ _ are (λ k l h there. grind (arith, in_ordered a k (r l), in_ordered b k (s l), reasons l))

-- ---- One reason more or less is counted

module _ (live : Live) (r : ReasonOf) (lits : List Literal) (uses now : Uses) (are : AreCounted live r lits uses) where
  -- the next one
  pub counted_more : uses.counted < length lits → now.counted ≡ uses.counted + 1 → ((k : Literal) → times uses k + one (clause_in live (r (get_or lits uses.counted 0))) k ≤ times now k) → AreCounted live r lits now
  counted_more = grind (arith, common_steps, take_more, uses_more)

  -- the last one no longer
  pub counted_less : now.counted + 1 ≡ uses.counted → ((k : Literal) → times uses k ≤ times now k + one (clause_in live (r (get_or lits now.counted 0))) k) → AreCounted live r lits now
  counted_less = grind (arith, common_steps, nat_tests, take_more, uses_more)
