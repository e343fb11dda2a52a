-- How large clauses are: the sum of the sizes of all live clauses (our own measure).
use Rattle.std.specs.Prelude.{ℕ, zero, suc, ◌+◌, Option, Some, None}
use Rattle.cnf_base.specs.Literals.{Clause, size}
use Rattle.theory.specs.Lrat.{LratState}

-- the size of the clause at an identifier, if one is alive
abbrev pub size_at : Option Clause → ℕ
size_at None = 0
size_at (Some c) = size c

-- f 1 + .. + f n
abbrev pub sum_to : ℕ → (ℕ → ℕ) → ℕ
sum_to zero f = 0
sum_to (suc n) f = sum_to n f + f (suc n)

-- the sum of the sizes of the clauses that are alive at the identifiers 1 to `top`
abbrev pub total : LratState → ℕ
total state = sum_to state.top (λ k. size_at (state.live k))
