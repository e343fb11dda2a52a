-- Clauses as sets: what is summed over their different literals, and clauses that repeat nothing.
use Rattle.cnf_base.proofs.SetLemmas.{has-without, has_append_cases, has_append_left}
use Rattle.cnf_base.proofs.SetLemmas.{has_append_right, has_head, has_tail, without_has}
use Rattle.cnf_base.specs.{Code.Literals.sum_distinct, Literals.{Clause, Literal, has, size}}
use Rattle.{cnf_base.specs.Literals.without, std.proofs.Common.{[], ap, arith, cond, false, get_or}}
use Rattle.std.proofs.Common.{length, refl, suc, take, true, zero, ℕ, ◌++◌, ◌+◌, ◌<◌, ◌∷◌, ◌≡◌, ◌≤◌}

-- each literal of c is one of d
abbrev pub IsWithin : Clause → Clause → Type 0
IsWithin c d = (l : Literal) → has c l ≡ true → has d l ≡ true

-- ---- Sums over the different literals

pub without_absent : (d : Clause) (l : Literal) → has d l ≡ false → without d l ≡ d
without_absent [] l h = refl
without_absent (k ∷ d) l h = let later = without_absent d l in grind arith

module _ (f : Literal → ℕ) where
  -- without a literal that it has, a clause weighs less by that literal
  pub sum_without : (d : Clause) (l : Literal) → has d l ≡ true
      → sum_distinct f d ≡ f l + sum_distinct f (without d l)
  sum_without [] l h = absurd (cc)
  sum_without (k ∷ d) l h =
      grind (arith, sum_without d l, without_absent d l, without_has, has-without)

  pub sum_covered : (c d : Clause) → IsWithin c d → sum_distinct f c ≤ sum_distinct f d
  sum_covered [] d there = omega arith
  sum_covered (l ∷ c) d there = grind (
    arith,
    sum_covered c,
    has_tail,
    without_has,
    has-without,
    sum_without d l,
    has_head l c,
  )

  pub sum_same : (c d : Clause) → IsWithin c d → IsWithin d c → sum_distinct f c ≡ sum_distinct f d
  sum_same c d there back = grind (arith, sum_covered)

  -- one more literal at the end
  pub sum_push : (c : Clause) (l : Literal)
      → sum_distinct f (c ++ l ∷ []) ≡ cond (has c l) (sum_distinct f c) (f l + sum_distinct f c)
  sum_push c l =
      sum_same (c ++ l ∷ []) (l ∷ c) (grind (arith, has_append_cases))
      (grind (arith, has_append_right, has_append_left))

-- ---- Sizes

pub size_is : (c : Clause) → size c ≡ sum_distinct (λ _. 1) c
size_is [] = refl
size_is (l ∷ c) = ap (λ n. cond (has c l) n (1 + n)) (size_is c)

pub size_same : (c d : Clause) → IsWithin c d → IsWithin d c → size c ≡ size d
size_same c d there back = grind (arith, size_is, sum_same)

pub size_push : (c : Clause) (l : Literal)
    → size (c ++ l ∷ []) ≡ cond (has c l) (size c) (1 + size c)
size_push c l = grind (arith, size_is, sum_push)

pub size_covered : (c d : Clause) → IsWithin c d → size c ≤ size d
size_covered c d there = grind (arith, sum_covered, size_is)

-- a clause within one of the same size has all its literals
pub all_covered : (c d : Clause) → IsWithin c d → size c ≡ size d → IsWithin d c
all_covered c d there same l h =
    let below = size_covered c (without d l) in let less = sum_without (λ _. 1) d l h in
    grind (arith, size_is, has-without)

-- ---- Clauses that repeat nothing

pub size_le_length : (c : Clause) → size c ≤ length c
size_le_length [] = omega arith
size_le_length (l ∷ c) = let later = size_le_length c in grind arith

pub distinct_parts : (l : Literal) (c : Clause) → size (l ∷ c) ≡ length (l ∷ c) → (has c l ≡ false)
    × (size c ≡ length c)
distinct_parts l c h = grind (arith, cond, size_le_length)

pub has_at : (c : Clause) (i : ℕ) (x : Literal) → i < length c → x ≡ get_or c i x → has c x ≡ true
has_at [] i x low e = absurd (omega arith)
has_at (l ∷ c) zero x low e = cc (has_head l c)
has_at (l ∷ c) (suc i) x low e = has_tail l c x (has_at c i x (omega arith) e)

-- a literal stands nowhere before its place
pub distinct_before : (c : Clause) (i : ℕ) (x : Literal) → size c ≡ length c → i < length c
    → x ≡ get_or c i x → has (take i c) x ≡ false
distinct_before [] i x d low e = absurd (omega arith)
distinct_before (l ∷ c) zero x d low e = refl
distinct_before (l ∷ c) (suc i) x d low e =
    grind (arith, distinct_parts l c d, has_at, distinct_before c i x)
