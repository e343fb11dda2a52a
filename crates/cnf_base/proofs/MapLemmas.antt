-- Finite maps by number: look-ups where one was changed, and sums over what one has.
use Rattle.{cnf_base.specs.Maps.sum_over, std.proofs.Common.{List, None, Option, Some, [], arith}}
use Rattle.std.proofs.Common.{cond, eq-eqb, eqb, length, map, nat_cmp, ne_eqb, refl, rules, suc}
use Rattle.std.proofs.Common.{sum_by, sym, zero, ℕ, ◌*◌, ◌+◌, ◌-◌, ◌∙◌, ◌∷◌, ◌≡◌, ◌≢◌, ◌≤◌, ◌⊎◌}
use Rattle.std.proofs.lemmas.{List.{nil_from_length, Sums.sum_by-cons}, Option.none-some}
use Rattle.std.specs.{Cmp.{nat_cmp_total, unsigned_tied}, FinMap.{FinMap, find, put}}
use Rattle.std.specs.FinMap as maps

-- ---- Look-ups

module _ {X : Type 0} where
  pub get_insert : (m : FinMap nat_cmp X) (k : ℕ) (x : X) (q : ℕ)
      → maps.get (maps.insert m k x) q ≡ cond (eqb q k) (Some x) (maps.get m q)
  get_insert m k x q = cc (maps.get-insert nat_cmp_total m k x q, unsigned_tied q k)

  pub get_remove : (m : FinMap nat_cmp X) (k q : ℕ)
      → maps.get (maps.remove m k) q ≡ cond (eqb q k) None (maps.get m q)
  get_remove m k q = cc (maps.get-remove nat_cmp_total m k q, unsigned_tied q k)

  pub same_maps : (m n : FinMap nat_cmp X) → ((q : ℕ) → maps.get m q ≡ maps.get n q) → m ≡ n
  same_maps m n is = maps.same_map nat_cmp_total maps.nat_cmp-IsAntisymmetric m n is

  pub insert_here : (m : FinMap nat_cmp X) (k s : ℕ) (c : X) → s ≡ k
      → maps.get (maps.insert m k c) s ≡ Some c
  insert_here m k s c e = cc (get_insert m k c s, eq-eqb s k e)

  pub insert_other : (m : FinMap nat_cmp X) (k s : ℕ) (c : X) → s ≢ k
      → maps.get (maps.insert m k c) s ≡ maps.get m s
  insert_other m k s c ne = cc (get_insert m k c s, ne_eqb s k ne)

  pub remove_here : (m : FinMap nat_cmp X) (k s : ℕ) → s ≡ k → maps.get (maps.remove m k) s ≡ None
  remove_here m k s e = cc (get_remove m k s, eq-eqb s k e)

  pub remove_other : (m : FinMap nat_cmp X) (k s : ℕ) → s ≢ k
      → maps.get (maps.remove m k) s ≡ maps.get m s
  remove_other m k s ne = cc (get_remove m k s, ne_eqb s k ne)

  -- a key that had nothing, and one that comes to have nothing again
  pub inserted_is : (m n : FinMap nat_cmp X) (k : ℕ) (c : X) → maps.get n k ≡ Some c
      → ((s : ℕ) → s ≢ k → maps.get n s ≡ maps.get m s) → n ≡ maps.insert m k c
  inserted_is m n k c here others = grind (arith, same_maps, insert_here, insert_other)

  pub removed_back : (m n : FinMap nat_cmp X) (k : ℕ) → maps.get m k ≡ None
      → ((s : ℕ) → s ≢ k → maps.get n s ≡ maps.get m s) → maps.remove n k ≡ m
  removed_back m n k free others = grind (arith, same_maps, remove_here, remove_other)

  pub after_insert : (m : FinMap nat_cmp X) (k : ℕ) (x : X) (s : ℕ) (c : X)
      → maps.get (maps.insert m k x) s ≡ Some c → (x ≡ c) ⊎ (maps.get m s ≡ Some c)
  after_insert m k x s c is = grind (arith, get_insert)

  pub after_remove : (m : FinMap nat_cmp X) (k s : ℕ) (c : X)
      → maps.get (maps.remove m k) s ≡ Some c → maps.get m s ≡ Some c
  after_remove m k s c is = grind (arith, eqb, get_remove, cond, none-some)

  pub len_with : (m : FinMap nat_cmp X) (k : ℕ) (c : X) → maps.get m k ≡ None
      → maps.len (maps.insert m k c) ≡ maps.len m + 1
  len_with m k c free = cc (maps.len-insert nat_cmp_total m k c)

  len_without : (m : FinMap nat_cmp X) (k : ℕ) (c : X) → maps.get m k ≡ Some c
      → maps.len (maps.remove m k) ≡ maps.len m - 1
  len_without m k c here = cc (maps.len-remove nat_cmp_total m k)

  -- one in the place of another
  insert_again : (m : FinMap nat_cmp X) (k : ℕ) (d : X)
      → maps.insert (maps.remove m k) k d ≡ maps.insert m k d
  insert_again m k d = search (rules, inserted_is, insert_here, insert_other, remove_other)

  pub insert_twice : (m : FinMap nat_cmp X) (k : ℕ) (c d : X)
      → maps.insert (maps.insert m k c) k d ≡ maps.insert m k d
  insert_twice m k c d = search (rules, inserted_is, insert_here, insert_other)

  -- what is there already
  pub insert_same : (m : FinMap nat_cmp X) (k : ℕ) (c : X) → maps.get m k ≡ Some c
      → maps.insert m k c ≡ m
  insert_same m k c here = sym (inserted_is m m k c here (λ s ne. refl))

-- ---- Sums

module _ {X : Type 0} (w : X → ℕ) where
  abbrev weight : List (ℕ × X) → ℕ
  weight es = sum_by w (map (λ e. e.1) es)

  weight-cons : (e : ℕ × X) (es : List (ℕ × X)) → weight (e ∷ es) ≡ w e.1 + weight es
  weight-cons e es = sum_by-cons w e.1 (map (λ e. e.1) es)

  weight_put : (k : ℕ) (c : X) (es : List (ℕ × X)) → find nat_cmp k es ≡ None
      → weight (put nat_cmp k c es) ≡ w c + weight es
  weight_put k c [] none = weight-cons (k, c) []
  weight_put k c (e ∷ es) none = grind (
    arith,
    weight_put k c es,
    weight-cons (k, c) (e ∷ es),
    weight-cons e (put nat_cmp k c es),
    weight-cons e es,
  )

  -- what comes to a new key adds its weight
  pub sum_insert : (m : FinMap nat_cmp X) (k : ℕ) (c : X) → maps.get m k ≡ None
      → sum_over w (maps.insert m k c) ≡ w c + sum_over w m
  sum_insert m k c none =
      grind (arith, weight_put, maps.get-entries, maps.entries-insert nat_cmp_total m k c)

  -- what is taken out takes its weight with it
  pub sum_remove : (m : FinMap nat_cmp X) (k : ℕ) (c : X) → maps.get m k ≡ Some c
      → w c + sum_over w (maps.remove m k) ≡ sum_over w m
  sum_remove m k c here =
      let back = inserted_is (maps.remove m k) m k c here in
      grind (arith, remove_other, sum_insert (maps.remove m k) k c, remove_here)

  pub sum_replace : (m : FinMap nat_cmp X) (k : ℕ) (c d : X) → maps.get m k ≡ Some c → w d ≡ w c
      → sum_over w (maps.insert m k d) ≡ sum_over w m
  sum_replace m k c d here alike =
      let there = sum_insert (maps.remove m k) k d (remove_here m k k refl) in
      cc (insert_again m k d, sum_remove m k c here)

  pub sum_empty : sum_over w maps.empty ≡ 0
  sum_empty =
      let none = sym (maps.len-entries maps.empty) ∙ maps.len-empty nat_cmp X in
      cc (nil_from_length (maps.entries maps.empty) none)

-- ---- Sums over two maps

-- the weight of what is at a key
abbrev pub weight_at : {X : Type 0} → (X → ℕ) → Option X → ℕ
weight_at w None = 0
weight_at w (Some x) = w x

module _ {X Y : Type 0} (w : X → ℕ) (v : Y → ℕ) where
  -- at each key the first map has no more than the second
  abbrev pub IsLighter : FinMap nat_cmp X → FinMap nat_cmp Y → Type 0
  IsLighter m k = (s : ℕ) (x : X) → maps.get m s ≡ Some x → w x ≤ weight_at v (maps.get k s)

  -- what is taken out, if anything is there
  sum_without : (k : FinMap nat_cmp Y) (s : ℕ)
      → weight_at v (maps.get k s) + sum_over v (maps.remove k s) ≡ sum_over v k
  sum_without k s = grind (arith, removed_back, sum_remove)

  lighter_rest : (m : FinMap nat_cmp X) (k : FinMap nat_cmp Y) (t : ℕ) → IsLighter m k
      → IsLighter (maps.remove m t) (maps.remove k t)
  lighter_rest m k t each s x here = grind (arith, remove_here, remove_other)

  sum_lighter_of : (n : ℕ) (m : FinMap nat_cmp X) (k : FinMap nat_cmp Y) → maps.len m ≡ n
      → IsLighter m k → sum_over w m ≤ sum_over v k
  sum_lighter_of zero m k none each = grind (arith, maps.empty_of_len m none, sum_empty w)
  sum_lighter_of (suc n) m k long each =
      elim (maps.entries m) as (λ es. maps.entries m ≡ es → sum_over w m ≤ sum_over v k) [
        | [] ↦ λ is. grind arith
        | ◌∷◌ e es ↦ λ is.
            let here : maps.get m e.0 ≡ Some e.1 =
            cc (maps.get-entries m e.0, unsigned_tied e.0 e.0, eq-eqb e.0 e.0 refl) in
            grind (
              arith,
              len_without m e.0 e.1 here,
              lighter_rest m k e.0 each,
              each e.0 e.1 here,
              sum_lighter_of n (maps.remove m e.0) (maps.remove k e.0),
              sum_remove w m e.0 e.1 here,
              sum_without k e.0,
            )
      ] refl

  pub sum_lighter : (m : FinMap nat_cmp X) (k : FinMap nat_cmp Y) → IsLighter m k
      → sum_over w m ≤ sum_over v k
  sum_lighter m k each = sum_lighter_of (maps.len m) m k refl each

-- ---- Sums by two weights

module _ {X : Type 0} where
  sum_le : (w v : X → ℕ) (m : FinMap nat_cmp X)
      → ((s : ℕ) (x : X) → maps.get m s ≡ Some x → w x ≤ v x) → sum_over w m ≤ sum_over v m
  sum_le w v m each = grind (arith, sum_lighter)

  pub sum_alike : (w v : X → ℕ) (m : FinMap nat_cmp X)
      → ((s : ℕ) (x : X) → maps.get m s ≡ Some x → w x ≡ v x) → sum_over w m ≡ sum_over v m
  sum_alike w v m each = grind (arith, sum_le)

  pub sum_bound : (w : X → ℕ) (most : ℕ) (m : FinMap nat_cmp X)
      → ((s : ℕ) (x : X) → maps.get m s ≡ Some x → w x ≤ most) → sum_over w m ≤ most * maps.len m
  sum_bound w most m each =
      grind (arith, sum_le w (λ x. most) m each, all_most (maps.entries m), maps.len-entries m)
    where
      all_most : (es : List (ℕ × X)) → sum_by (λ x. most) (map (λ e. e.1) es) ≡ most * length es
      all_most [] = omega arith
      all_most (e ∷ es) =
          omega (arith, sum_by-cons (λ (x : X). most) e.1 (map (λ e. e.1) es), all_most es)
