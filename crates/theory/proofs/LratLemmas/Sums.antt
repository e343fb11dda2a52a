-- Sums of sizes over identifiers.
use Rattle.{cnf_base.specs.Literals.{Clause, size}, std.proofs.Common.{None, Some, ap, arith}}
use Rattle.std.proofs.Common.{eq-eqb, inl, inr, ne_eqb, refl, rules, suc, zero, ℕ, ◌+◌, ◌<◌, ◌∙◌}
use Rattle.std.proofs.{Common.{◌≡◌, ◌≢◌, ◌≤◌}, lemmas.Bool.{cases_eq, cases_lt}}
use Rattle.theory.specs.{Lrat.{with_clause, without_id}, Propagation.Live, Sizes.{size_at, sum_to}}

pub sum_agree : (n : ℕ) (f g : ℕ → ℕ) → ((k : ℕ) → 1 ≤ k → k ≤ n → f k ≡ g k)
    → sum_to n f ≡ sum_to n g
sum_agree zero f g same = refl
sum_agree (suc n) f g same =
    search (rules, (sum_agree n f g (λ k low high. same k low (omega arith))))

-- nothing above `top` counts
pub sum_above : (top n : ℕ) (f : ℕ → ℕ) → top ≤ n → ((k : ℕ) → top < k → f k ≡ 0)
    → sum_to n f ≡ sum_to top f
sum_above top zero f le none = let e : 0 ≡ top = omega arith in ap (λ m. sum_to m f) e
sum_above top (suc n) f le none = elim (cases_lt n top) [
  | inl past ↦ let e : suc n ≡ top = omega arith in ap (λ m. sum_to m f) e
  | inr inside ↦ omega (arith, (sum_above top n f inside none))
]

-- a change at one identifier
pub sum_change : (n id : ℕ) (f g : ℕ → ℕ) → 1 ≤ id → id ≤ n → ((k : ℕ) → k ≢ id → f k ≡ g k)
    → sum_to n f + g id ≡ sum_to n g + f id
sum_change zero id f g low high same = absurd (let h : ⊥ = omega arith in h)
sum_change (suc n) id f g low high same =
    grind (arith, cases_eq, sum_agree, (sum_change n id f g low))

-- ---- Clauses

module _ (live : Live) (id : ℕ) where
  pub with_here : (c : Clause) → with_clause live id c id ≡ Some c
  with_here c = cc (eq-eqb id id refl)

  pub with_other : (c : Clause) (k : ℕ) → k ≢ id → with_clause live id c k ≡ live k
  with_other c k apart = cc (ne_eqb k id apart)

  pub without_here : without_id live id id ≡ None
  without_here = cc (eq-eqb id id refl)

  pub without_other : (k : ℕ) → k ≢ id → without_id live id k ≡ live k
  without_other k apart = cc (ne_eqb k id apart)

-- a clause that is added past all others
pub sum_with : (live after : Live) (top id : ℕ) (c : Clause) → top < id
    → ((k : ℕ) → top < k → live k ≡ None) → ((k : ℕ) → after k ≡ with_clause live id c k) →
    sum_to id (λ k. size_at (after k)) ≡ sum_to top (λ k. size_at (live k)) + size c
sum_with live after top id c above none is =
    let at_id = is id ∙ with_here live id c in let was = none id above in
    let change = sum_change id id (λ k. size_at (after k)) (λ k. size_at (live k)) (omega arith)
    (omega arith) (λ k apart. ap size_at (is k ∙ with_other live id c k apart)) in
    let rest = sum_above top id _ (omega arith) (λ k past. ap size_at (none k past)) in grind arith

-- a clause that is taken off
pub sum_without : (live after : Live) (top id : ℕ) → live 0 ≡ None → ((k : ℕ) → top < k → live k ≡ None) → ((k : ℕ) → after k ≡ without_id live id k) → (c : Clause) → live id ≡ Some c →
    sum_to top (λ k. size_at (after k)) + size c ≡ sum_to top (λ k. size_at (live k))
sum_without live after top id zero_none none is c at =
    let low : 1 ≤ id = search rules in let high : id ≤ top = search rules in
    let at_id = is id ∙ without_here live id in
    let change = sum_change top id (λ k. size_at (after k)) (λ k. size_at (live k)) low high
    (λ k apart. ap size_at (is k ∙ without_other live id k apart)) in grind arith
  where
    apart : (c : Clause) → Some c ≡ None → ⊥
    apart c e = cc
