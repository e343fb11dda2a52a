-- Entries in lists.
use Rattle.{cnf_base.specs.Literals.{Clause, has}, std.proofs.Common.{Bool, List, None, Some, []}}
use Rattle.std.proofs.Common.{ap, arith, cond, drop, eqb, get_or, length, not, rules, slice_get}
use Rattle.std.proofs.Common.{swap_remove, take, true, ℕ, ◌&&◌, ◌++◌, ◌+◌, ◌-◌, ◌<◌, ◌∷◌, ◌≡◌, ◌≤◌}
use Rattle.std.proofs.lemmas.{Grind.get_or_default_zero, List.{drop-take, take-append-drop}}
use Rattle.std.proofs.lemmas.List.{take-take, take_all, Sums.{get_or-le-sum_by, sum_by-append}}
use Rattle.std.proofs.lemmas.List.Sums.{sum_by-cons, sum_by-le-sum_by, sum_by-remove}
use Rattle.std.proofs.lemmas.List.Sums.{sum_by-swap_remove, sum_by_more, sum_by_push}
use Rattle.std.{proofs.lemmas.Option.{slice_get-get_or, slice_get_cases}, specs.List.remove}
use Rattle.watch_lists.specs.{Code.Lists.{code_of, entries_with}, Lists.{entries_of, fits}}
use Rattle.watch_lists.specs.Lists.{marked_entries, slot_at, slot_of, times_in, unfit_entries}
use Rattle.watch_lists.specs.declared.watcher.Watcher.{Watcher}

pub eqb_turned : (a b : ℕ) → eqb a b ≡ eqb b a
eqb_turned a b = grind arith

-- a slot that is taken out
pub times_taken : (xs : List ℕ) (i s x : ℕ) → i < length xs → get_or xs i 0 ≡ s → x ≡ get_or xs i x → (k : ℕ) → times_in k (swap_remove xs i x) + cond (eqb k s) 1 0 ≡ times_in k xs
times_taken xs i s x inside read is k =
    search (rules, arith, get_or_default_zero, sum_by-swap_remove)

-- the entry at a place
pub slot_is : (xs : List Watcher) (i : ℕ) (d : Watcher) → i < length xs → slot_at xs i ≡ (get_or xs i d).slot
slot_is xs i d inside = ap slot_of (slice_get-get_or xs i d inside)

pub entry_at : (xs : List Watcher) (i : ℕ) (w : Watcher) → slice_get xs i ≡ Some w → (i < length xs) × (w ≡ get_or xs i w)
entry_at xs i w is = search (rules, arith, slice_get_cases)

pub entry_past : (xs : List Watcher) (i : ℕ) → slice_get xs i ≡ None → length xs ≤ i
entry_past xs i none = search (rules, arith, slice_get_cases)

-- an entry that is taken out
pub entries_taken : (xs : List Watcher) (i s : ℕ) (d : Watcher) → i < length xs → slot_at xs i ≡ s → (k : ℕ) → entries_of k (swap_remove xs i d) + cond (eqb k s) 1 0 ≡ entries_of k xs
entries_taken xs i s d inside read k = search (rules, arith, sum_by-swap_remove, slot_is)

-- the same where the others keep their order
pub entries_removed : (xs : List Watcher) (i s : ℕ) (d : Watcher) → i < length xs → slot_at xs i ≡ s → (k : ℕ) → entries_of k (remove xs i) + cond (eqb k s) 1 0 ≡ entries_of k xs
entries_removed xs i s d inside read k =
    let taken = sum_by-remove (λ w. cond (eqb w.slot k) 1 0) xs i d inside in
    search (rules, arith, slot_is, eqb_turned)

pub unfit_removed : (xs : List Watcher) (i : ℕ) (d : Watcher) → i < length xs → (s l : ℕ) (c : Clause) → unfit_entries s c l (remove xs i) ≤ unfit_entries s c l xs
unfit_removed xs i d inside s l c = let taken = sum_by-remove (λ w. cond (eqb w.slot s && not (fits c l w.blocking w.is_binary)) 1 0) xs i d inside in omega (arith, taken)

-- an entry that is none of the next ones
pub coded_chunk : (xs : List Watcher) (from n code : ℕ) → entries_with code (take from xs) ≡ 0 → entries_with code (take (from + n - from) (drop from xs)) ≡ 0 → entries_with code (take (from + n) xs) ≡ 0
coded_chunk xs from n code none absent =
    let split = sum_by-append (λ w. cond (eqb (code_of w.slot w.is_binary) code) 1 0) (take from (take (from + n) xs)) (drop from (take (from + n) xs)) in
    search (rules, arith, take-append-drop, take-take, drop-take)

-- entries that fit their clause have its mark
pub marked_fitting : (xs : List Watcher) (s l : ℕ) (c : Clause) → entries_of s xs ≤ marked_entries s (eqb (length c) 2) xs + unfit_entries s c l xs
marked_fitting [] s l c = omega arith
marked_fitting (w ∷ xs) s l c =
    let rest = marked_fitting xs s l c in
    let all = sum_by-cons (λ x. cond (eqb x.slot s) 1 0) w xs in
    let marked = sum_by-cons (λ x. cond (eqb x.slot s && cond (eqb (length c) 2) x.is_binary (not x.is_binary)) 1 0) w xs in
    let unfit = sum_by-cons (λ x. cond (eqb x.slot s && not (fits c l x.blocking x.is_binary)) 1 0) w xs in
    let here = one (eqb w.slot s) (eqb (length c) 2) w.is_binary (has c w.blocking) (not (eqb w.blocking l)) in
    omega (arith, rest, all, marked, unfit, here)
  where
    one : (is_of two b member differs : Bool) → cond {A = ℕ} is_of 1 0 ≤ cond (is_of && cond two b (not b)) 1 0 + cond (is_of && not (member && cond b (two && differs) (not two))) 1 0
    one is_of two b member differs = search rules

-- an entry that fits its clause, or is of another slot
pub unfit_none : (s l : ℕ) (c : Clause) (w : Watcher) → (s ≡ w.slot → fits c l w.blocking w.is_binary ≡ true) → cond {A = ℕ} (eqb w.slot s && not (fits c l w.blocking w.is_binary)) 1 0 ≡ 0
unfit_none s l c w fitting = search rules

-- one more that does
pub unfit_pushed : (xs : List Watcher) (w : Watcher) (s l : ℕ) (c : Clause) → (s ≡ w.slot → fits c l w.blocking w.is_binary ≡ true) → unfit_entries s c l (xs ++ w ∷ []) ≤ unfit_entries s c l xs
unfit_pushed xs w s l c fitting = search (rules, arith, sum_by_push)

-- a slot without entries
pub unfit_absent : (xs : List Watcher) (s l : ℕ) (c : Clause) → entries_of s xs ≡ 0 → unfit_entries s c l xs ≡ 0
unfit_absent xs s l c none = search (rules, arith, sum_by-le-sum_by)

-- clauses with the same literals, and as many
pub unfit_alike : (xs : List Watcher) (s l : ℕ) (c d : Clause) → ((k : ℕ) → has d k ≡ has c k) → length d ≡ length c → unfit_entries s d l xs ≡ unfit_entries s c l xs
unfit_alike xs s l c d alike as_long = search rules

-- an entry of a list in which all fit
pub entry_fits : (xs : List Watcher) (i : ℕ) (w : Watcher) (l : ℕ) (c : Clause) → i < length xs → w ≡ get_or xs i w → unfit_entries w.slot c l xs ≡ 0 → fits c l w.blocking w.is_binary ≡ true
entry_fits xs i w l c inside is none = search (rules, arith, get_or-le-sum_by)

-- what is said of an entry that is taken off
pub ruleset taken_steps = (entries_taken, sum_by-swap_remove)

-- and of a walk over the entries
pub ruleset walk_steps = (sum_by_more, take_all)
