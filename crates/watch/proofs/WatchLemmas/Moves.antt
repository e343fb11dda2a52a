-- Clauses whose literals change places: one that watches another literal, and one whose first two
-- literals stay, perhaps in the other order.
use Rattle.clause_db.{proofs.StoreLemmas.Swap.has_swapped, specs.Store.is_tautology}
use Rattle.cnf_base.proofs.MapLemmas.{insert_here, insert_other, insert_same, insert_twice}
use Rattle.{cnf_base.proofs.MemberLemmas.{has_front, has_place}, std.proofs.Common.{◌≢◌, ◌≤◌}}
use Rattle.{cnf_base.proofs.SizeLemmas.{distinct_before, size_same}, std.proofs.Math.Bool.or_comm}
use Rattle.cnf_base.specs.Literals.{Clause, Literal, complement, has, size}
use Rattle.{propagation.specs.Assumptions.AssumptionsState, std.proofs.lemmas.Bool.false≢true}
use Rattle.root_literals.proofs.RootLemmas.{Reasons.ordered_same, Terms.{Clauses, ReasonOf}}
use Rattle.root_literals.{proofs.RootLemmas.Watched.sure_by, specs.Code.Propagated.PropagatesTo}
use Rattle.{root_literals.specs.Watched.IsMet, watch_lists.proofs.WatchListsLemmas.Made.and_true}
use Rattle.std.proofs.Common.{List, Some, [], ap, arith, cond, eq-eqb, eqb, false, get_or, inl, inr}
use Rattle.std.proofs.Common.{length, ne_eqb, not, refl, set, subst, suc, swap, sym, take_all, true}
use Rattle.std.proofs.Common.{true≢false, zero, ℕ, ◌&&◌, ◌++◌, ◌+◌, ◌-◌, ◌<◌, ◌||◌, ◌∙◌, ◌∷◌, ◌≡◌}
use Rattle.std.proofs.lemmas.{Bool.cases_eq, List.Sums.{get_or-le-sum_by, sum_by-set, sum_by_push}}
use Rattle.std.proofs.lemmas.{Bool.Decides.nat_tests, List.Edits.{length-swap, swapped_from_swap}}
use Rattle.std.proofs.lemmas.{Grind.{get_or_default_zero, same_number_lists}, Option.same_Some}
use Rattle.theory.{proofs.PropagationLemmas.Forced.forced_assumed, specs.Propagation.Live}
use Rattle.watch.specs.{Code.Visits.{IsExchange, IsExchangeAt}, declared.visit.Exchange.Exchange}
use Rattle.watch_lists.proofs.WatchListsLemmas.Lists.{entry_fits, eqb_turned, unfit_alike}
use Rattle.watch_lists.proofs.WatchListsLemmas.{Lists.{unfit_none, unfit_pushed}, Made.and_false}
use Rattle.watch_lists.proofs.WatchListsLemmas.Watched.{tautology_alike, watches_first}
use Rattle.watch_lists.specs.{Lists.entries_of, Watched.{IsListed, entries_for, is_first, watches}}
use Rattle.watch_lists.specs.{Lists.{fits, unfit_entries}, declared.watcher.Watcher.Watcher}
use Rattle.std.specs.FinMap as maps

-- three literals, two of which differ from the third
one_moved : (a b m x : Literal) → a ≢ b → a ≢ m → cond (eqb a x || eqb m x) 1 0 + cond {A = ℕ} (eqb x b) 1 0 ≡ cond (eqb a x || eqb b x) 1 0 + cond {A = ℕ} (eqb x m) 1 0
one_moved = grind arith

-- the first two
pub first_is : (c : Clause) (x : Literal) → 2 ≤ length c → is_first c x ≡ (eqb (get_or c 0 0) x || eqb (get_or c 1 0) x)
first_is = grind arith

-- literals at two places of a clause that repeats none
pub places_apart : (c : Clause) (i j : ℕ) (l m : Literal) → size c ≡ length c → i < j → j < length c → get_or c i 0 ≡ l → get_or c j 0 ≡ m → l ≢ m
places_apart c i j l m different low inside l_is m_is same =
    let here = has_front c j i low (omega (arith, low, inside)) in
    grind (arith, true≢false, distinct_before, get_or_default_zero)

-- the second literal, l, is exchanged with a later one, m
pub entries_moved : (l m : Literal) (c : Clause) (to : ℕ) → is_tautology c ≡ false → size c ≡ length c → get_or c 1 0 ≡ l → 2 ≤ to → to < length c → get_or c to 0 ≡ m → (x : Literal) →
    cond (watches (swap c 1 to) x) 1 0 + cond {A = ℕ} (eqb x l) 1 0 ≡ cond (watches c x) 1 0 + cond {A = ℕ} (eqb x m) 1 0
entries_moved l m c to apart different there past inside to_is x = let d = swap c 1 to in
    let a = get_or c 0 0 in let second : 1 < length c = omega (arith, past, inside) in
    let w = swapped_from_swap c d 1 to 0 second inside refl in let len = length-swap c 1 to in
    let was : watches c x ≡ (eqb a x || eqb l x) = grind (arith, watches_first, first_is) in
    let now : watches d x ≡ (eqb a x || eqb m x) =
    watches_first d x (tautology_alike c d (has_swapped c d 1 to second inside refl) ∙ apart) ∙ first_is d x (omega (arith, len, second))
    ∙ simp (w.2 0 (λ e. omega (arith, e)) (λ e. omega (arith, past, e)), w.0, to_is) in
    simp (was, now) (one_moved a l m x (places_apart c 0 1 a l different (omega arith) second refl there) (places_apart c 0 to a m different (omega (arith, past)) inside refl to_is))

-- ---- The lists

-- an entry goes from the list that is in hand to that of m
module _ (lists after : Literal → List Watcher) (l m : ℕ) (w : Watcher) (other : l ≢ m) (pushed : (k : Literal) → after k ≡ cond (eqb k m) (lists k ++ w ∷ []) (lists k))
    (list left : List Watcher) (taken : (s : ℕ) → entries_of s left + cond (eqb s w.slot) 1 0 ≡ entries_of s list) where
  abbrev was : Literal → List Watcher
  was k = cond (eqb k l) list (lists k)

  abbrev is : Literal → List Watcher
  is k = cond (eqb k l) left (after k)

  pub times_moved : (x s : ℕ) → entries_of s (is x) + cond (eqb x l && eqb s w.slot) 1 0 ≡ entries_of s (was x) + cond (eqb x m && eqb s w.slot) 1 0
  times_moved = grind (arith, cases_eq, eq-eqb, ne_eqb, sum_by_push, eqb_turned)

  -- where the entry fits the clause
  pub unfit_moved : (c : Clause) → fits c m w.blocking w.is_binary ≡ true → ((s x : ℕ) (e : Clause) → unfit_entries s e x left ≤ unfit_entries s e x list) → (x s : ℕ) (e : Clause) → (s ≡ w.slot → e ≡ c) → unfit_entries s e x (is x) ≤ unfit_entries s e x (was x)
  unfit_moved = grind (arith, cases_eq, eq-eqb, ne_eqb, unfit_pushed)

-- two literals that were exchanged twice
pub swap_back : (c : Clause) (a b : ℕ) → a < length c → b < length c → swap (swap c a b) b a ≡ c
swap_back c a b low inside = let d = swap c a b in let len = length-swap c a b in
    let first = swapped_from_swap c d a b 0 low inside refl in
    let second = swapped_from_swap d (swap d b a) b a 0 (omega (arith, len, inside)) (omega (arith, len, low)) refl in
    grind (arith, same_number_lists, swap, length-swap, cases_eq)

-- literals of a clause that are exchanged, and back
pub exchanged_back : (live after back : Clauses) (slot from to : ℕ) (c : Clause) → maps.get live slot ≡ Some c → from < length c → to < length c →
    after ≡ maps.insert live slot (swap c from to) → ((d : Clause) → maps.get after slot ≡ Some d → back ≡ maps.insert after slot (swap d to from)) → back ≡ live
exchanged_back live after back slot from to c here low inside moved again =
    let d = swap c from to in
    again d (grind (arith, insert_here)) ∙ ap (λ m. maps.insert m slot (swap d to from)) moved
    ∙ ap (maps.insert (maps.insert live slot d) slot) (swap_back _ _ _ low inside) ∙ insert_twice _ _ _ _ ∙ insert_same _ _ _ here

-- a clause with the same literals takes the place of another one; of the literals that are watched, l may give way to m
module _ (live : Clauses) (slot : ℕ) (c d : Clause) (here : maps.get live slot ≡ Some c) (alike : (k : Literal) → has d k ≡ has c k) (as_long : length d ≡ length c) (l m : Literal)
    (entries : (x : Literal) → cond (watches d x) 1 0 + cond {A = ℕ} (eqb x l) 1 0 ≡ cond (watches c x) 1 0 + cond {A = ℕ} (eqb x m) 1 0) where
  at_slot : maps.get (maps.insert live slot d) slot ≡ Some d
  at_slot = grind (arith, insert_here)

  at_others : (s : ℕ) → s ≢ slot → maps.get (maps.insert live slot d) s ≡ maps.get live s
  at_others s ne = insert_other live slot s d ne

  pub listed_moved : (lists after : Literal → List Watcher) → IsListed (maps.get live) lists →
      ((x s : ℕ) → entries_of s (after x) + cond (eqb x l && eqb s slot) 1 0 ≡ entries_of s (lists x) + cond (eqb x m && eqb s slot) 1 0) →
      ((x s : ℕ) (e : Clause) → (s ≡ slot → e ≡ c) → unfit_entries s e x (after x) ≤ unfit_entries s e x (lists x)) → IsListed (maps.get (maps.insert live slot d)) after
  listed_moved lists after listed times fewer = record {
    watched = grind (arith, cases_eq, eq-eqb, and_true, at_slot, ne_eqb, and_false, at_others);
    low = grind (arith, cases_eq, at_others);
    fitting = λ x s e is. elim (cases_eq s slot) [
      | inl same ↦
          let is_d = same_Some d e (sym at_slot ∙ ap (maps.get (maps.insert live slot d)) (sym same) ∙ is) in
          let none = listed.fitting x s c (ap (maps.get live) same ∙ here) in
          grind (arith, unfit_alike)
      | inr ne ↦ grind (arith, at_others)
    ];
  }

  -- where a literal that is false and watched now was so before
  pub propagates_exchanged : (held : AssumptionsState) (reason_of : ReasonOf) → ((x : Literal) → has held.trail.lits (complement x) ≡ true → watches d x ≡ true → watches c x ≡ true) →
      PropagatesTo live (maps.insert live slot d) held held reason_of reason_of
  propagates_exchanged held reason_of still = record {
    same = ordered_same _ _ _ _ here alike;
    units = grind (arith, cases_eq, at_slot, at_others);
    kept = λ doubts done trues p q watched. record {
      each = λ s e is x h.
          elim (cases_eq s slot) [
            | inl same ↦
                subst (λ y. IsMet y x trues) (grind (arith, same_Some, at_slot)) (λ there.
                let met = watched.each slot c (grind (arith, sure_by)) x h (still x (p (complement x) h) there) in
                (met.0, alike met.0 ∙ met.1, met.2))
            | inr ne ↦ grind (arith, sure_by, at_others)
          ];
    };
    sound = grind (arith, forced_assumed);
    extends = grind (arith, take_all);
    noted = λ l h. h;
    as_before = λ l h. refl;
    reasoned = λ are. are;
  }

-- ---- A slot in the list that is in hand

module _ (live : Live) (lists : Literal → List Watcher) (l : Literal) (list : List Watcher)
    (listed : IsListed live (λ k. cond (eqb k l) list (lists k))) where
  slot_alive : (place : ℕ) (d : Watcher) → place < length list →
      (c : Clause) × (live (get_or list place d).slot ≡ Some c) × (watches c l ≡ true) × (unfit_entries (get_or list place d).slot c l list ≡ 0)
  slot_alive place d inside = let s = (get_or list place d).slot in
      let one = get_or-le-sum_by (λ w. cond (eqb w.slot s) 1 0) list place d inside in
      let here : cond {A = ℕ} (eqb s s) 1 0 ≡ 1 = ap (λ b. cond {A = ℕ} b 1 0) (eq-eqb s s refl) in
      let count : entries_of s list ≡ entries_for (live s) l = grind (arith, eq-eqb) in
      grind (arith, get_or-le-sum_by, eq-eqb)

  -- its clause, which the entry fits
  pub entry_alive : (place : ℕ) (e : Watcher) → place < length list → e ≡ get_or list place e →
      (c : Clause) × (live e.slot ≡ Some c) × (watches c l ≡ true) × (fits c l e.blocking e.is_binary ≡ true)
  entry_alive place e inside is =
      let w = slot_alive place e inside in grind (arith, entry_fits)

  -- an entry with another literal of its clause
  pub listed_written : (place : ℕ) (e entry : Watcher) → place < length list → e ≡ get_or list place e → entry.slot ≡ e.slot →
      ((c : Clause) → live e.slot ≡ Some c → fits c l entry.blocking entry.is_binary ≡ true) → IsListed live (λ k. cond (eqb k l) (set list place entry) (lists k))
  listed_written place e entry inside is same fitting = record {
    watched = λ k s. elim (cases_eq k l) [
      | inl y ↦ simp (eq-eqb k l y) (as_many s ∙ (grind (arith, eq-eqb)))
      | inr ne ↦ grind (arith, ne_eqb)
    ];
    low = listed.low;
    fitting = λ k s c there. elim (cases_eq k l) [
      | inl y ↦
          let none = simp (eq-eqb k l y) at (listed.fitting k s c there) in
          let left = fewer k y s c there in
          simp (eq-eqb k l y) (omega (arith, none, left))
      | inr ne ↦ simp (ne_eqb k l ne) (simp (ne_eqb k l ne) at (listed.fitting k s c there))
    ];
  }
    where
      as_many : (s : ℕ) → entries_of s (set list place entry) ≡ entries_of s list
      as_many s = let put = sum_by-set (λ w. cond (eqb w.slot s) 1 0) list place entry e inside in
          let alike : cond {A = ℕ} (eqb entry.slot s) 1 0 ≡ cond (eqb (get_or list place e).slot s) 1 0 = ap (λ n. cond {A = ℕ} (eqb n s) 1 0) (same ∙ ap (λ x. x.slot) is) in
          omega (arith, put, alike)

      fewer : (k : Literal) → k ≡ l → (s : ℕ) (c : Clause) → live s ≡ Some c → unfit_entries s c k (set list place entry) ≤ unfit_entries s c k list
      fewer k of_l s c there =
          let put = sum_by-set (λ w. cond (eqb w.slot s && not (fits c k w.blocking w.is_binary)) 1 0) list place entry e inside in
          let none = unfit_none s k c entry (grind arith) in omega (arith, put, none)

-- ---- A clause whose first two literals stay, perhaps in the other order, and one whose second is

module _ (live : Clauses) (slot : ℕ) (c d : Clause) (here : maps.get live slot ≡ Some c) (alike : (l : Literal) → has d l ≡ has c l) (as_long : length d ≡ length c) (first : (l : Literal) → is_first d l ≡ is_first c l) where
  same_watches : (x : Literal) → watches d x ≡ watches c x
  same_watches = grind (arith, tautology_alike)

  same_entries : (x : Literal) → cond (watches d x) 1 0 + cond {A = ℕ} (eqb x 0) 1 0 ≡ cond (watches c x) 1 0 + cond {A = ℕ} (eqb x 0) 1 0
  same_entries = grind (arith, same_watches)

  -- the lists are as they should
  pub listed_reordered : (lists : Literal → List Watcher) → IsListed (maps.get live) lists → IsListed (maps.get (maps.insert live slot d)) lists
  listed_reordered lists listed = listed_moved _ _ _ _ here alike as_long 0 0 same_entries _ _ listed (λ x s. refl) (λ x s e same. omega arith)

  pub propagates_reordered : (held : AssumptionsState) (reason_of : ReasonOf) → PropagatesTo live (maps.insert live slot d) held held reason_of reason_of
  propagates_reordered held reason_of = propagates_exchanged _ _ _ _ here alike as_long 0 0 same_entries _ _ (λ x _ there. sym (same_watches x) ∙ there)

-- ---- The second literal, which is false, is exchanged with a later one, which isn't

pub propagates_moved : (live : Clauses) (held : AssumptionsState) (slot : ℕ) (c : Clause) →
    maps.get live slot ≡ Some c → (to : ℕ) (l m : Literal) →
    is_tautology c ≡ false → size c ≡ length c → get_or c 1 0 ≡ l → 2 ≤ to → to < length c →
    get_or c to 0 ≡ m → has held.trail.lits (complement m) ≡ false → (reason_of : ReasonOf) →
    PropagatesTo live (maps.insert live slot (swap c 1 to)) held held reason_of reason_of
propagates_moved live held slot c here to l m apart different there past inside to_is m_open reason_of =
    let d = swap c 1 to in
    let moved = entries_moved l m c to apart different there past inside to_is in
    propagates_exchanged live slot c d here (grind (arith, has_swapped)) (length-swap c 1 to) l m moved held reason_of (grind (arith, false≢true, moved, nat_tests))

-- ---- The first two are put in the order in which a given one is the second

-- the literal that stood at `from` is the second
abbrev pub turned : Clause → ℕ → Clause
turned c from = swap c 0 (1 - from)

pub turned_front : (c : Clause) (from : ℕ) → from < 2 → 2 ≤ length c → (get_or (turned c from) 1 0 ≡ get_or c from 0) × ((x : Literal) → is_first (turned c from) x ≡ is_first c x)
turned_front [] from low long = absurd (omega (arith, long))
turned_front (a ∷ []) from low long = absurd (omega (arith, long))
turned_front (a ∷ b ∷ c) zero low long = grind (arith, or_comm)
turned_front (a ∷ b ∷ c) (suc zero) low long = (refl, λ x. refl)
turned_front (a ∷ b ∷ c) (suc (suc from)) low long = absurd (omega (arith, low))

module _ {c : Clause} {l : Literal} {x : Exchange} (w : IsExchange c l x) where
  pub exchange_long : 2 ≤ length c
  exchange_long = grind arith

  pub exchange_member : has c x.other ≡ true
  exchange_member = grind (arith, has_place)

  pub turned_has : (k : Literal) → has (turned c w.from) k ≡ has c k
  turned_has = grind (arith, has_swapped)

  pub turned_as_long : length (turned c w.from) ≡ length c
  turned_as_long = length-swap c 0 (1 - w.from)

  turned_first : (k : Literal) → is_first (turned c w.from) k ≡ is_first c k
  turned_first = grind (arith, turned_front, exchange_long)

  abbrev exchange_turned : IsExchange (turned c w.from) l x
  exchange_turned = let long = exchange_long in let past = w.to_high in
      let places = swapped_from_swap c (turned c w.from) 0 (1 - w.from) 0 (omega (arith, long)) (omega (arith, long)) refl in record {
        from = 1;
        from_low = omega arith;
        from_is = (turned_front c w.from w.from_low long).0 ∙ w.from_is;
        other_is = places.0 ∙ w.other_is;
        to_high = past;
        to_inside = let len = turned_as_long in let inside = w.to_inside in omega (arith, len, inside);
        to_is = places.2 x.to (λ e. omega (arith, past, e)) (λ e. omega (arith, past, e)) ∙ w.to_is;
      }

-- of the clause in the slot
module _ {live : Clauses} {slot : ℕ} {l : Literal} {x : Exchange} (w : IsExchangeAt live slot l x) where
  abbrev pub turned_clause : Clause
  turned_clause = turned w.clause w.exchange.from

  abbrev pub turned_live : Clauses
  turned_live = maps.insert live slot turned_clause

  abbrev pub turned_at : IsExchangeAt turned_live slot l x
  turned_at = record {
    clause = turned_clause;
    at = insert_here live slot slot turned_clause refl;
    different = size_same turned_clause w.clause (λ k h. sym (turned_has w.exchange k) ∙ h) (λ k h. turned_has w.exchange k ∙ h) ∙ w.different ∙ sym (turned_as_long w.exchange);
    apart = tautology_alike w.clause turned_clause (turned_has w.exchange) ∙ w.apart;
    exchange = exchange_turned w.exchange;
  }

  pub turned_listed : (lists : Literal → List Watcher) → IsListed (maps.get live) lists → IsListed (maps.get turned_live) lists
  turned_listed = listed_reordered _ _ _ _ w.at (turned_has w.exchange) (turned_as_long w.exchange) (turned_first w.exchange)

  pub turned_propagates : (held : AssumptionsState) (reason_of : ReasonOf) → PropagatesTo live turned_live held held reason_of reason_of
  turned_propagates = propagates_reordered _ _ _ _ w.at (turned_has w.exchange) (turned_as_long w.exchange) (turned_first w.exchange)

  -- the clause after both
  abbrev pub exchanged : Clause
  exchanged = swap turned_clause 1 x.to

  -- both are written at once
  module _ (after : Clauses) (k : ℕ) (of_slot : k ≡ slot)
      (is : (d : Clause) (from : ℕ) → maps.get live k ≡ Some d → from < 2 → get_or d from 0 ≡ l
      → get_or d (1 - from) 0 ≡ x.other
      → after ≡ maps.insert live k (swap (swap d 0 (1 - from)) 1 x.to)) where
    pub moved : after ≡ maps.insert turned_live slot exchanged
    moved = grind (arith, insert_twice)

    pub moved_there : maps.get after k ≡ Some exchanged
    moved_there = grind (arith, moved, insert_here)

  -- it has a place for the other one
  pub to_inside : x.to < length exchanged
  to_inside = grind (arith, length-swap)

  pub second_inside : 1 < length exchanged
  second_inside = grind (arith, to_inside)
