-- Variables under numbers from 1, in the order in which they were met (our own: to a rule a name
-- means nothing). A numbering is the list of the variables that were met, each once.
use Rattle.std.specs.List.{position_or_len}
use Rattle.std.specs.Prelude.{ℕ, zero, suc, ◌+◌, ◌==◌, List, [], ◌∷◌, ◌++◌, slice_index_or}
use Rattle.std.specs.Prelude.{if◌then◌else◌}
use Rattle.cnf_base.specs.Literals.{Literal, variable, has}

-- the number of a variable; of one that wasn't met the next number
abbrev pub number_in : List ℕ → ℕ → ℕ
number_in names v = 1 + position_or_len (λ w. w == v) names

-- the variable that has this number
abbrev pub name_in : List ℕ → ℕ → ℕ
name_in names zero = 0
name_in names (suc n) = slice_index_or names n 0

-- with a further variable, unless it was met
abbrev pub with_name : List ℕ → ℕ → List ℕ
with_name names v = if has names v then names else names ++ v ∷ []

-- with those of a clause, in their order
abbrev pub with_names : List ℕ → List Literal → List ℕ
with_names names [] = names
with_names names (l ∷ c) = with_names (with_name names (variable l)) c
