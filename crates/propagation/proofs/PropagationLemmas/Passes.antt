-- Passes over the clauses: what they keep, and why they end.
use Rattle.cnf_base.proofs.SetLemmas.{has_append_left, has_append_right, has_cases, has_head}
use Rattle.cnf_base.specs.Literals.{Clause, Literal, complement, has, variable}
use Rattle.propagation.proofs.PropagationLemmas.Below.{below_none, below_some}
use Rattle.propagation.specs.{Code.Passes.unset, declared.scan.unit.Pass.Pass}
use Rattle.propagation.specs.declared.scan.unit.Pass.TheVariants.{Changed, Conflict, Quiet}
use Rattle.std.proofs.Common.{Bool, List, None, Some, [], arith, cond, false, inl, inr, map, not}
use Rattle.std.proofs.{Common.{true, ℕ, ◌++◌, ◌+◌, ◌/◌, ◌<◌, ◌∷◌, ◌≡◌, ◌≤◌}, lemmas.Bool.false≢true}
use Rattle.{std.proofs.lemmas.List.{map-append, Sums.sum_by-cons}, theory.specs.Propagation.Live}
use Rattle.{theory.specs.Propagation.open_literals, trail.proofs.TrailLemmas.Truth.variable_open}
use Rattle.trail.specs.{Code.Left.IsSettled, Left.how_many, Trail.TrailState}

-- ---- How many variables are open

unset-cons : (lits : List ℕ) (v : ℕ) (vs : List ℕ)
    → unset lits (v ∷ vs) ≡ cond (not (has (map variable lits) v)) 1 0 + unset lits vs
unset-cons lits v vs = sum_by-cons (λ w. cond (not (has (map variable lits) w)) 1 0) v vs

module _ (lits : List ℕ) (m : ℕ) where
  pub still_set : (v : ℕ) → has (map variable lits) v ≡ true
      → has (map variable (lits ++ m ∷ [])) v ≡ true
  still_set v h = grind (arith, map-append, has_append_left)

  now_set : has (map variable (lits ++ m ∷ [])) (variable m) ≡ true
  now_set = grind (arith, map-append, has_append_right, has_head)

  weight_le : (a b : Bool) → (a ≡ true → b ≡ true) → cond {A = ℕ} (not b) 1 0 ≤ cond (not a) 1 0
  weight_le a b h = grind (arith, false≢true)

  unset_le : (vs : List ℕ) → unset (lits ++ m ∷ []) vs ≤ unset lits vs
  unset_le [] = omega arith
  unset_le (v ∷ vs) =
      let less = weight_le (has (map variable lits) v) (has (map variable (lits ++ m ∷ [])) v) (still_set v) in
      grind (arith, unset-cons (lits ++ m ∷ []) v vs, unset-cons lits v vs, unset_le vs)

  unset_falls : has (map variable lits) (variable m) ≡ false → (vs : List ℕ)
      → has vs (variable m) ≡ true → unset (lits ++ m ∷ []) vs < unset lits vs
  unset_falls absent [] h = absurd (false≢true h)
  unset_falls absent (v ∷ vs) h =
      let first = unset-cons (lits ++ m ∷ []) v vs in let second = unset-cons lits v vs in
      elim (has_cases v vs (variable m) h) [
        | inl e ↦ grind (arith, first, second, now_set, unset_le vs)
        | inr g ↦ grind (arith, first, second, still_set v, unset_falls absent vs g)
      ]

-- ---- One pass, up to a slot

abbrev pub IsPassedTo : Live → TrailState → List Literal → ℕ → Pass → Type 0
IsPassedTo live before lits n Conflict = ⊥
IsPassedTo live before lits n Changed = (vs : List ℕ) → ((v : ℕ) → has before.reserved v ≡ true → has vs v ≡ true) → unset lits vs < unset before.lits vs
IsPassedTo live before lits n Quiet =
    (lits ≡ before.lits) × ((k : ℕ) (c : Clause) → k < n → live k ≡ Some c
    → IsSettled before.lits (how_many (open_literals before.lits c)))

module _ (live : Live) (before : TrailState) (lits : List Literal) (n : ℕ) where
  pub passed_none : None ≡ live n → (p : Pass) → IsPassedTo live before lits n p
      → IsPassedTo live before lits (n + 1) p
  passed_none h p h2 = grind (arith, below_none)

  pub passed_settled : (d : Clause) → Some d ≡ live n
      → IsSettled lits (how_many (open_literals lits d)) → (p : Pass)
      → IsPassedTo live before lits n p → IsPassedTo live before lits (n + 1) p
  passed_settled d h h2 p h3 = grind (arith, below_some)

  pub passed_unit : (m : Literal) → has lits m ≡ false → has lits (complement m) ≡ false
      → has before.reserved (m / 2) ≡ true → (p : Pass) → IsPassedTo live before lits n p
      → IsPassedTo live before (lits ++ m ∷ []) (n + 1) Changed
  passed_unit m e f member p h vs covers =
      let falls = unset_falls lits m (variable_open lits m e f) vs (covers (m / 2) member) in grind arith
