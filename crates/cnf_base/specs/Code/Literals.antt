-- How sums over different literals are taken.
use Rattle.std.specs.Prelude.{ℕ, ◌+◌, [], ◌∷◌, if◌then◌else◌}
use Rattle.cnf_base.specs.Literals.{Clause, has, Literal}

-- the sum over the different literals
abbrev pub sum_distinct : (Literal → ℕ) → Clause → ℕ
sum_distinct f [] = 0
sum_distinct f (l ∷ c) = if has c l then sum_distinct f c else f l + sum_distinct f c
