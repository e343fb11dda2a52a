-- The lists of all clauses, as they are filled part by part.
use Rattle.clause_db.proofs.StoreLemmas.Below.{below, below_next, below_none, below_same, gone}
use Rattle.{clause_db.specs.Store.is_tautology, std.proofs.lemmas.List.Sums.sum_by-cons}
use Rattle.cnf_base.proofs.MapLemmas.{sum_alike, sum_bound, sum_empty, sum_insert}
use Rattle.{cnf_base.specs.{Literals.{Clause, Literal, size}, Maps.sum_over}, std.proofs.Common.◌≤◌}
use Rattle.std.proofs.Common.{Bool, IsSome, List, None, Some, [], arith, cond, eqb, false, length}
use Rattle.std.proofs.Common.{min, nat_lt, refl, rules, sum_by, true, ℕ, ◌&&◌, ◌+◌, ◌<◌, ◌∷◌, ◌≡◌}
use Rattle.{std.specs.FinMap.FinMap, watch_lists.proofs.WatchListsLemmas.Made.{added, is_counted}}
use Rattle.{std.specs.Ordering.nat_cmp, watch_lists.specs.Code.Part.{is_in, part_of, watched_in}}
use Rattle.watch_lists.specs.Lists.{entries_in, entries_of, list_at, unfit_entries}
use Rattle.watch_lists.specs.Watched.{AddsFitting, HasAll, entries_for, watches}
use Rattle.watch_lists.specs.declared.{lists.WatchLists.WatchLists, part.Part.Part}
use Rattle.std.specs.FinMap as maps

-- two sums at once
sum_both : {X : Type 0} (f g h : X → ℕ) → ((x : X) → f x + g x ≡ h x)
    → (xs : List X) → sum_by f xs + sum_by g xs ≡ sum_by h xs
sum_both f g h each [] = refl
sum_both f g h each (x ∷ xs) =
    let rest = sum_both f g h each xs in
    omega (arith, sum_by-cons f x xs, sum_by-cons g x xs, sum_by-cons h x xs, each x, rest)

-- ---- One part

-- the lists of a part have got the entries of the clauses in the slots below one
pub record IsFilling (part : Part) (n : ℕ) (live : FinMap nat_cmp Clause)
    (before lists : WatchLists) : Type 0 where
  pub watched : (l s : ℕ) → entries_of s (list_at lists l) ≡ entries_of s (list_at before l)
      + cond (is_in part l) (entries_for (maps.get (below n live) s) l) 0
  pub fitting : (l s : ℕ) (c : Clause) → maps.get live s ≡ Some c →
      unfit_entries s c l (list_at lists l) ≤ unfit_entries s c l (list_at before l)
  pub entries : entries_in lists ≡
      entries_in before + sum_over (watched_in (is_in part)) (below n live)

same_clause : (live : FinMap nat_cmp Clause) (n s : ℕ) (c d : Clause) → maps.get live n ≡ Some c
    → maps.get live s ≡ Some d → s ≡ n → d ≡ c
same_clause live n s c d here there same = search rules

no_entries : (b : Bool) (l : Literal) → cond b (entries_for None l) 0 ≡ 0
no_entries b l = search rules

module _ (part : Part) (live : FinMap nat_cmp Clause) where
  pub filling_none : (lists : WatchLists) → IsFilling part 0 live lists lists
  filling_none lists = search (rules, arith, below_none, sum_empty, maps.get-empty)

  one_more : (l : Literal) (c : Clause)
      → cond (is_in part l) (entries_for (Some c) l) 0 ≡ cond (is_in part l && watches c l) 1 0
  one_more l c = search rules

  pub filling_next : (n : ℕ) (c : Clause) (before lists lists2 : WatchLists) → maps.get live n ≡ Some c
      → ((l s : ℕ) → entries_of s (list_at lists2 l) ≡
      entries_of s (list_at lists l) + cond (is_in part l && watches c l && eqb s n) 1 0)
      → AddsFitting c n lists lists2
      → entries_in lists2 ≡ entries_in lists + watched_in (is_in part) c
      → IsFilling part n live before lists → IsFilling part (n + 1) live before lists2
  filling_next n c before lists lists2 here times fewer entries was =
      let free = gone n live n (omega arith) in
      let next = below_next n live c here in
      record {
        watched = λ l s.
            let more = added (below n live) (below (n + 1) live) n c free next
            (λ o. cond (is_in part l) (entries_for o l) 0) (no_entries (is_in part l) l)
            (is_in part l && watches c l) (one_more l c) s _ refl in
            omega (arith, times l s, was.watched l s, more);
        fitting = grind (arith, same_clause);
        entries = grind (arith, sum_insert, below);
      }

  pub filling_nothing : (n : ℕ) (before lists : WatchLists) → maps.get live n ≡ None
      → IsFilling part n live before lists → IsFilling part (n + 1) live before lists
  filling_nothing n before lists none was = search (rules, below_same)

-- ---- All parts

-- the lists of the parts before one have all entries, and those of the others none
pub record AreFilled (last n : ℕ) (live : FinMap nat_cmp Clause) (lists : WatchLists) : Type 0 where
  pub watched : (l s : ℕ) → entries_of s (list_at lists l) ≡
      cond (nat_lt (part_of last l) n) (entries_for (maps.get live s) l) 0
  pub fitting : (l s : ℕ) (c : Clause) → maps.get live s ≡ Some c →
      unfit_entries s c l (list_at lists l) ≡ 0
  pub entries : entries_in lists ≡ sum_over (watched_in (λ l. nat_lt (part_of last l) n)) live

-- whether a literal is in a part before this one
abbrev is_before : (last n : ℕ) → Literal → Bool
is_before last n l = nat_lt (part_of last l) n

nothing_before : (last : ℕ) (c : Clause) → watched_in (is_before last 0) c ≤ 0
nothing_before last [] = omega arith
nothing_before last (a ∷ []) = omega arith
nothing_before last (a ∷ b ∷ c) = search (rules, arith)

one_part : (x n e : ℕ) → cond (nat_lt x n) e 0 + cond (eqb x n) e 0 ≡ cond (nat_lt x (n + 1)) e 0
one_part x n e = grind arith

abbrev pub part_at : (last n : ℕ) → Part
part_at last n = record { number = n; last = last }

part_watched : (last n : ℕ) (c : Clause) → watched_in (is_before last n) c
    + watched_in (is_in (part_at last n)) c ≡ watched_in (is_before last (n + 1)) c
part_watched last n [] = refl
part_watched last n (a ∷ []) = refl
part_watched last n (a ∷ b ∷ c) =
    by_kind (is_tautology (a ∷ b ∷ c)) _ _ _ _ _ _
    (one_part (part_of last a) n 1) (one_part (part_of last b) n 1)
  where
    by_kind : (is_apart : Bool) (p q r u v w : ℕ) → p + q ≡ r → u + v ≡ w
        → cond is_apart 0 (p + u) + cond is_apart 0 (q + v) ≡ cond is_apart 0 (r + w)
    by_kind true p q r u v w e f = refl
    by_kind false p q r u v w e f = omega (arith, e, f)

last_first : (last x : ℕ) → nat_lt (min x last) (last + 1) ≡ true
last_first last x = grind arith

module _ (last : ℕ) (live : FinMap nat_cmp Clause) where
  pub filled_none : (lists : WatchLists) → ((l : Literal) → list_at lists l ≡ [])
      → entries_in lists ≡ 0 → AreFilled last 0 live lists
  filled_none lists empty none =
      search (rules, arith, sum_bound (watched_in (is_before last 0)) 0 live, nothing_before)

  pub filled_next : (n : ℕ) (lists lists2 : WatchLists)
      → ((l s : ℕ) → entries_of s (list_at lists2 l) ≡ entries_of s (list_at lists l)
      + cond (is_in (part_at last n) l) (entries_for (maps.get live s) l) 0)
      → ((l s : ℕ) (c : Clause) → maps.get live s ≡ Some c →
      unfit_entries s c l (list_at lists2 l) ≤ unfit_entries s c l (list_at lists l))
      → entries_in lists2 ≡ entries_in lists + sum_over (watched_in (is_in (part_at last n))) live
      → AreFilled last n live lists → AreFilled last (n + 1) live lists2
  filled_next n lists lists2 times fewer entries was = record {
    watched = grind (arith, one_part);
    fitting = λ l s c here. omega (arith, fewer l s c here, was.fitting l s c here);
    entries =
        let both = sum_both (watched_in (is_before last n)) (watched_in (is_in (part_at last n)))
        (watched_in (is_before last (n + 1))) (part_watched last n) (maps.values live) in
        omega (arith, entries, was.entries, both);
  }

  all_watched : (c : Clause) → size c ≡ length c → watched_in (is_before last (last + 1)) c ≡
      cond (is_counted c) 1 0 + cond (is_counted c) 1 0
  all_watched [] different = search (rules, arith)
  all_watched (a ∷ []) different = search (rules, arith)
  all_watched (a ∷ b ∷ c) different = search (rules, arith, last_first)

  pub filled_all : (lists : WatchLists) → ((s : ℕ) → IsSome (maps.get live s) → s < 2147483648)
      → ((s : ℕ) (c : Clause) → maps.get live s ≡ Some c → size c ≡ length c)
      → AreFilled last (last + 1) live lists → HasAll live lists
  filled_all lists low different filled = record {
    each = grind (arith, last_first);
    two_each =
        let weight : Clause → ℕ = λ c. cond (is_counted c) 1 0 in
        let alike = sum_alike (watched_in (is_before last (last + 1))) (λ c. weight c + weight c)
        live (λ s c here. all_watched c (different s c here)) in
        grind (arith, sum_both);
  }
