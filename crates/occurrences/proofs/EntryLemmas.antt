-- Entries of lists, and the slots that occur.
use Rattle.cnf_base.{proofs.{MemberLemmas.place_of, SetLemmas.both_pass}, specs.Literals.has}
use Rattle.occurrences.proofs.TestLemmas.{all_left, any_alike, any_and, any_filter, any_map}
use Rattle.occurrences.specs.{Code.Known.{AreAlike, is_known}, Entries.{births_of, counts, is_of}}
use Rattle.{occurrences.specs.declared.occurrence.Occurrence.Occurrence, std.proofs.Common.List}
use Rattle.std.proofs.Common.{None, Some, [], arith, cond, eq-eqb, eqb, eqb-true, false, filter}
use Rattle.std.proofs.Common.{is_some, map, not, rules, true, ℕ, ◌&&◌, ◌++◌, ◌+◌, ◌<◌, ◌||◌, ◌∙◌}
use Rattle.std.proofs.{Common.{◌∷◌, ◌≡◌, ◌≢◌, ◌≤◌}, lemmas.Grind.get_or_default_zero}
use Rattle.std.proofs.lemmas.List.Folds.{list_all-append, list_any-append, list_any_at}
use Rattle.std.proofs.lemmas.List.Kept.{Contains-dedup_nat, Contains-from_dedup}
use Rattle.{std.specs.List.{Contains, dedup, list_all, list_any}, tables.specs.ByKey.at}
use Rattle.tables.specs.declared.by_key.ByKey.{ByKey}

-- ---- Lists in the place of others

pub alike_cleaned : (births : ByKey ℕ) (xs : List Occurrence)
    → AreAlike births xs (filter (counts births) xs)
alike_cleaned births xs = grind (arith, any_filter, all_left)

-- with one entry more
pub alike_push : (births : ByKey ℕ) (xs ys : List Occurrence) (e : Occurrence)
    → AreAlike births xs ys → AreAlike births (xs ++ e ∷ []) (ys ++ e ∷ [])
alike_push births xs ys e alike = grind (arith, list_any-append, list_all-append)

-- a list in the place of another
pub put_over : (before taken after : ℕ → List Occurrence) (key : ℕ) (list : List Occurrence) →
    ((k : ℕ) → taken k ≡ cond (eqb k key) [] (before k)) → ((k : ℕ) → after k ≡ cond (eqb k key) list (taken k)) → (k : ℕ) → after k ≡ cond (eqb k key) list (before k)
put_over before taken after key list took put k = grind arith

-- keys that lie beyond all others still have no list
pub put_beyond : (before after : ℕ → List Occurrence) (key most : ℕ) (list : List Occurrence)
    → key < most → ((k : ℕ) → after k ≡ cond (eqb k key) list (before k))
    → ((k : ℕ) → most ≤ k → before k ≡ []) → (k : ℕ) → most ≤ k → after k ≡ []
put_beyond before after key most list low put none k past = grind arith

-- one entry more at a key
pub push_occurs : (births : ByKey ℕ) (before after : ℕ → List Occurrence) (key slot : ℕ)
    (e : Occurrence) → e.slot ≡ slot → counts births e ≡ true
    → AreAlike births (before key ++ e ∷ []) (after key) → ((k : ℕ) → k ≢ key → after k ≡ before k)
    → (k s : ℕ) → list_any (is_of births s) (after k)
    ≡ (list_any (is_of births s) (before k) || (eqb k key && eqb s slot))
push_occurs births before after key slot e slot_is alive alike others k s =
    grind (arith, list_any-append)

-- a list in the place of one that is alike
pub put_alike : (births : ByKey ℕ) (before taken after : ℕ → List Occurrence) (key : ℕ)
    (list : List Occurrence) → ((k : ℕ) → taken k ≡ cond (eqb k key) [] (before k))
    → ((k : ℕ) → after k ≡ cond (eqb k key) list (taken k)) → AreAlike births (before key) list
    → (k : ℕ) → AreAlike births (before k) (after k)
put_alike births before taken after key list took put alike k = grind arith

-- ---- A slot that is forgotten

pub written_others : (old new : ByKey ℕ) (slot m : ℕ) → ((k : ℕ) → at new k ≡ cond (eqb k slot) (Some m) (at old k)) → (k : ℕ) → k ≢ slot → at new k ≡ at old k
written_others old new slot m is k ne = grind arith

module _ (old new : ByKey ℕ) (slot : ℕ) (others : (k : ℕ) → k ≢ slot → at new k ≡ at old k) where
  -- the entries of the slot count no longer
  pub forgotten : ((e : Occurrence) → is_known old e ≡ true → e.slot ≡ slot → counts new e ≡ false)
      → (xs : List Occurrence) → list_all (is_known old) xs ≡ true → (s : ℕ)
      → list_any (is_of new s) xs ≡ (list_any (is_of old s) xs && not (eqb s slot))
  forgotten never xs all s = any_alike (is_known old) (is_of new s) (λ e. is_of old s e && not (eqb s slot)) each xs all ∙ any_and (is_of old s) (not (eqb s slot)) xs
    where
      each : (e : Occurrence) → is_known old e ≡ true
          → is_of new s e ≡ (is_of old s e && not (eqb s slot))
      each e known = grind arith

  -- its entries are taken out
  pub rid_of : (xs : List Occurrence) (s : ℕ)
      → list_any (is_of new s) (filter (λ e. not (eqb e.slot slot)) xs)
      ≡ (list_any (is_of old s) xs && not (eqb s slot))
  rid_of xs s = search (rules, any_filter, each, any_and)
    where
      each : (e : Occurrence) → (is_of new s e && not (eqb e.slot slot))
          ≡ (is_of old s e && not (eqb s slot))
      each e = grind (arith, eqb-true)

  pub rid_known : (xs : List Occurrence) → list_all (is_known old) xs ≡ true
      → list_all (is_known new) (filter (λ e. not (eqb e.slot slot)) xs) ≡ true
  rid_known xs all = grind (arith, all_left)

-- they are taken out of all lists
pub rid_lists : (before after : ℕ → List Occurrence) (slot most : ℕ)
    → ((k : ℕ) → k < most → after k ≡ filter (λ e. not (eqb e.slot slot)) (before k))
    → ((k : ℕ) → most ≤ k → after k ≡ before k) → ((k : ℕ) → most ≤ k → before k ≡ []) → (k : ℕ)
    → after k ≡ filter (λ e. not (eqb e.slot slot)) (before k)
rid_lists before after slot most done left none k = grind arith

-- one number more is noted
module _ (old new : ByKey ℕ) (slot n m : ℕ) (was : at old slot ≡ Some n) (more : m ≡ n + 1) (is : (k : ℕ) → at new k ≡ cond (eqb k slot) (Some m) (at old k)) where
  here : at new slot ≡ Some m
  here = grind arith

  pub noted_others : (k : ℕ) → k ≢ slot → at new k ≡ at old k
  noted_others k ne = written_others old new slot m is k ne

  pub noted_known : (e : Occurrence) → is_known old e ≡ true → is_known new e ≡ true
  noted_known e h = grind arith

  pub noted_never : (e : Occurrence) → is_known old e ≡ true → e.slot ≡ slot → counts new e ≡ false
  noted_never e h same = grind arith

-- no number is noted
pub none_never : (births : ByKey ℕ) (slot : ℕ) → at births slot ≡ None → (e : Occurrence)
    → is_known births e ≡ true → e.slot ≡ slot → counts births e ≡ false
none_never births slot none e h same = grind arith

-- ---- A slot that is noted

module _ (old new : ByKey ℕ) (same : (k : ℕ) → births_of new k ≡ births_of old k) (kept : (k : ℕ) → is_some (at old k) ≡ true → is_some (at new k) ≡ true) where
  pub reserved_known : (e : Occurrence) → is_known old e ≡ true → is_known new e ≡ true
  reserved_known e h = grind arith

  pub reserved_occurs : (xs : List Occurrence) (s : ℕ)
      → list_any (is_of new s) xs ≡ list_any (is_of old s) xs
  reserved_occurs xs s = grind arith

-- ---- Slots that are gathered

pub gathered : (births : ByKey ℕ) (all list : List Occurrence) → list ≡ filter (counts births) all
    → (xs ys : List ℕ) → ys ≡ xs ++ map (λ e. e.slot) list → (s : ℕ)
    → has ys s ≡ (has xs s || list_any (is_of births s) all)
gathered births all list cleaned xs ys is s = grind (arith, list_any-append, any_map, any_filter)

-- ---- Slots in order

has_from : (xs : List ℕ) (s : ℕ) → Contains xs s → has xs s ≡ true
has_from xs s w = list_any_at (λ k. eqb k s) xs w.0 s w.1 (eq-eqb _ s w.2)

from_has : (xs : List ℕ) (s : ℕ) → has xs s ≡ true → Contains xs s
from_has xs s h = grind (arith, place_of, get_or_default_zero)

pub has_deduped : (xs : List ℕ) (s : ℕ) → has (dedup eqb xs) s ≡ has xs s
has_deduped xs s = both_pass (has (dedup eqb xs) s) (has xs s)
    (λ h. search (rules, has_from, Contains-from_dedup, from_has))
    (grind (arith, has_from, Contains-dedup_nat, from_has))
