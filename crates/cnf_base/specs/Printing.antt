-- Texts as they are printed plainly: words with one space between two, in lines that each end with
-- a line feed.
use Rattle.std.specs.Prelude.{ℕ, ◌%◌, ◌==◌, nat_le, ◌&&◌, if◌then◌else◌, Bool, List, [], ◌∷◌, ◌++◌}
use Rattle.std.specs.Prelude.{map, codes}
use Rattle.std.specs.Fmt.{decimal}
use Rattle.std.specs.List.{join_with_byte}
use Rattle.cnf_base.specs.Literals.{Literal, variable}
use Rattle.cnf_base.specs.Stream.{Input}
use Rattle.cnf_base.specs.declared.input.Ending.TheVariants.{End}

-- an input of just these bytes
abbrev pub input_of : List ℕ → Input
input_of bytes = record { bytes = bytes; ending = End }

-- a line of the text
abbrev pub line_of : List ℕ → List ℕ
line_of bytes = bytes ++ 10 ∷ []

-- a line of words
abbrev pub words_line : List (List ℕ) → List ℕ
words_line words = line_of (join_with_byte 32 words)

-- whether a literal is one of the variables from 1 to a greatest one, or the complement of one
abbrev pub is_literal : ℕ → Literal → Bool
is_literal greatest l = nat_le 1 (variable l) && nat_le (variable l) greatest

-- a literal is its variable in decimal, with a `-` before it where it is the complement (DIMACS)
abbrev pub literal_text : Literal → List ℕ
literal_text l = if l % 2 == 0 then decimal (variable l) else codes "-" ++ decimal (variable l)

-- literals, and the `0` that ends them (DIMACS)
abbrev pub literal_words : List Literal → List (List ℕ)
literal_words ls = map literal_text ls ++ codes "0" ∷ []
