-- How the code holds a model: its literals, and a table of them.
use Rattle.std.specs.Prelude.{◌≡◌, ℕ, Bool, List}
use Rattle.cnf_base.specs.Literals.{Literal, has}

-- the table has just the listed literals
abbrev pub IsListed : (ℕ → Bool) → List Literal → Type 0
IsListed listed lits = (l : Literal) → listed l ≡ has lits l
