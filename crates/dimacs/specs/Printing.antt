-- A formula and a model as they are printed plainly, and that they are read back as they were. Each
-- law is the contract of a function of `laws`.
use Rattle.std.specs.Prelude.{◌≡◌, ℕ, ◌≤◌, List, [], ◌∷◌, ◌++◌, length, map, reverse, codes, None}
use Rattle.std.specs.Prelude.{Some, Ok, IsTrue}
use Rattle.std.specs.Fmt.{decimal}
use Rattle.std.specs.List.{concat, flat_map, list_all}
use Rattle.cnf_base.specs.Literals.{Literal, Clause}
use Rattle.cnf_base.specs.Printing.{input_of, words_line, is_literal, literal_text, literal_words}
use Rattle.dimacs.specs.Claim.{claim_of, IsConsistent}
use Rattle.dimacs.specs.Formula.{formula_of}
use Rattle.dimacs.specs.declared.header.Header.{Header}

-- ---- A formula

-- `p cnf VARIABLES CLAUSES` (DIMACS CNF), and as a line
abbrev pub header_words : Header → List (List ℕ)
header_words h = codes "p" ∷ codes "cnf" ∷ decimal h.vars ∷ decimal h.clauses ∷ []

-- the header as a line
abbrev pub header_line : Header → List ℕ
header_line h = words_line (header_words h)

-- a clause in a line of its own (DIMACS CNF)
abbrev pub clause_line : Clause → List ℕ
clause_line c = words_line (literal_words c)

-- a formula: its header, and its clauses in order
abbrev pub formula_text : Header → List Clause → List ℕ
formula_text h clauses = header_line h ++ flat_map clause_line clauses

-- the clauses are as many as the header says, over the variables that it says, and it is within the
-- limits
pub record IsFormula (h : Header) (clauses : List Clause) : Type 0 where
  pub vars : h.vars ≤ 268435455
  pub count : h.clauses ≡ length clauses
  pub most : h.clauses ≤ 4294967295
  pub literals : IsTrue (list_all (list_all (is_literal h.vars)) clauses)

-- A formula that is printed is read back: its header, exactly its clauses, and no fault.
abbrev pub FormulaIsReadBack : Type 0
FormulaIsReadBack = (h : Header) (clauses : List Clause) → IsFormula h clauses →
    formula_of (input_of (formula_text h clauses))
    ≡ record { header = Some h; clauses = clauses; fault = None }

-- ---- A model

-- the line that says that there is a model (SAT Competition)
abbrev pub status_words : List (List ℕ)
status_words = codes "s" ∷ codes "SATISFIABLE" ∷ []

-- a line of values (SAT Competition)
abbrev pub value_words : List (List ℕ) → List (List ℕ)
value_words words = codes "v" ∷ words

-- the line of these values
abbrev pub value_line : List (List ℕ) → List ℕ
value_line words = words_line (value_words words)

-- the line of values of these literals
abbrev pub literals_line : List Literal → List ℕ
literals_line ls = value_line (map literal_text ls)

-- a solver's output that claims a model (SAT Competition): its status line, and its literals over
-- any number of lines, of which the last ends them with a `0`
abbrev pub model_text : List (List Literal) → List Literal → List ℕ
model_text lines last =
    words_line status_words ++ flat_map literals_line lines ++ value_line (literal_words last)

-- literals within the limit, none with its complement
pub record IsModel (ls : List Literal) : Type 0 where
  pub literals : IsTrue (list_all (is_literal 268435455) ls)
  pub consistent : IsConsistent ls

-- A model that is printed is read back: exactly its literals, the last one first.
abbrev pub ModelIsReadBack : Type 0
ModelIsReadBack =
    (lines : List (List Literal)) (last : List Literal) → IsModel (concat lines ++ last) →
    claim_of (input_of (model_text lines last)) ≡ Ok (reverse (concat lines ++ last))

-- ---- Examples

-- a formula and a model; the literal 2 * v is the variable v, and 2 * v + 1 its complement
abbrev pub example_header : Header
example_header = record { vars = 12; clauses = 3 }

-- the clauses of the example
abbrev pub example_clauses : List Clause
example_clauses = (2 ∷ 5 ∷ []) ∷ (25 ∷ []) ∷ [] ∷ []

-- The laws speak of them, and this is what they look like.
abbrev pub FormulasLookSo : Type 0
FormulasLookSo =
    IsFormula example_header example_clauses
    × (formula_text example_header example_clauses ≡ codes "p cnf 12 3\n1 -2 0\n-12 0\n0\n")
    × IsModel (2 ∷ 5 ∷ 25 ∷ [])
    × (model_text ((2 ∷ 5 ∷ []) ∷ []) (25 ∷ []) ≡ codes "s SATISFIABLE\nv 1 -2\nv -12 0\n")
