-- Lists that are found at once, and the others.
use Rattle.std.proofs.Common.{Bool, List, Vec, [], arith, cond, eqb, get_or, length, nat_lt, set}
use Rattle.std.proofs.Common.{slice_get, true, ℕ, ◌++◌, ◌+◌, ◌<◌, ◌||◌, ◌∷◌, ◌≡◌, ◌≤◌}
use Rattle.std.proofs.lemmas.List.{get_or-set_other, get_or-set_same, get_or_append_left}
use Rattle.std.proofs.lemmas.List.{get_or_push, length-append, length-set, Sums.sum_by-set}
use Rattle.std.{proofs.lemmas.Option.{slice_get-get_or, slice_get_past}, specs.Global.Global}
use Rattle.tables.specs.Lists.{items_or, total}

module _ {T : Type 0} (near : List (Vec T Global)) (l : ℕ) (list : Vec T Global) where
  -- one that is found at once is written with what it has
  module _ (d : Vec T Global) (inside : l < length near) (same : list.items ≡ (get_or near l d).items) where
    pub same_written : (rest : ℕ → List T) (k : ℕ)
        → items_or (slice_get (set near l list) k) (rest k) ≡ items_or (slice_get near k) (rest k)
    same_written rest k =
        let now = slice_get-get_or (set near l list) k d in
        let before = slice_get-get_or near k d in
        let here = get_or-set_same near l list d in
        let there = get_or-set_other near l k list d in
        grind (arith, now, before, here, there, slice_get_past, length-set)

    pub same_total : total (set near l list) ≡ total near
    same_total = grind (arith, sum_by-set)

  -- another one is written
  pub rest_written : (rest rest2 : ℕ → List T) → length near ≤ l
      → ((k : ℕ) → rest2 k ≡ cond (eqb k l) list.items (rest k)) → (k : ℕ)
      → items_or (slice_get near k) (rest2 k)
      ≡ cond (eqb k l) list.items (items_or (slice_get near k) (rest k))
  rest_written rest rest2 past is k = grind (arith, slice_get_past)

  -- one more is found at once
  pub near_more : (rest rest2 : ℕ → List T) → length near ≡ l → list.items ≡ rest l
      → ((k : ℕ) → rest2 k ≡ cond (eqb k l) [] (rest k)) → (k : ℕ)
      → items_or (slice_get (near ++ list ∷ []) k) (rest2 k) ≡ items_or (slice_get near k) (rest k)
  near_more rest rest2 len made is k =
      let now = slice_get-get_or (near ++ list ∷ []) k list in
      let before = slice_get-get_or near k list in
      let here = get_or_push near list list k in
      let there = get_or_append_left near (list ∷ []) list k in
      grind (arith, length-append, now, before, here, there, slice_get_past)

  -- a list in the place of an empty one
  pub total_put : l < length near → items_or (slice_get near l) [] ≡ []
      → total (set near l list) ≡ total near + length list.items
  total_put inside empty =
      let sum = sum_by-set (λ v. length v.items) near l list list inside in
      grind (arith, sum, slice_get-get_or near l list inside)

  -- a list that is written again, with as many entries, changes no sum
  pub total_again : (again : Vec T Global) → l < length near
      → length again.items ≡ length list.items
      → total (set (set near l list) l again) ≡ total (set near l list)
  total_again again inside len =
      let sum = sum_by-set (λ v. length v.items) (set near l list) l again list in
      grind (arith, sum, length-set, get_or-set_same near l list list inside)

-- a key that had a list has one where more are found at once
pub known_more : (key len len2 : ℕ) (some some2 : Bool) → len ≤ len2 → some2 ≡ some
    → (nat_lt key len || some) ≡ true → (nat_lt key len2 || some2) ≡ true
known_more key len len2 some some2 longer same known = grind arith
