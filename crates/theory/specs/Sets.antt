-- Lists of literals as sets (our own words for what all of the proof formats take for granted).
use Rattle.std.specs.List.{list_any}
use Rattle.std.specs.Prelude.{◌≡◌, List, Bool}
use Rattle.cnf_base.specs.Literals.{Literal, has, complement}

-- the same literals
abbrev pub SameSet : List Literal → List Literal → Type 0
SameSet first second = (l : Literal) → has first l ≡ has second l

-- the list holds a literal and its complement
abbrev pub conflicts : List Literal → Bool
conflicts ls = list_any (λ l. has ls (complement l)) ls
