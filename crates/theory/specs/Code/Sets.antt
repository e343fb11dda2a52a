-- What one list has and another lacks.
use Rattle.std.specs.Prelude.{ℕ, not, List, count_by}
use Rattle.cnf_base.specs.Literals.{Literal, has}

-- how many literals of a list are not among the found ones
abbrev pub lacking : List Literal → List Literal → ℕ
lacking found ls = count_by (λ l. not (has found l)) ls
