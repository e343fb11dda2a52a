-- What a formula and a solver's output are, as grammars over the words of a text: whatever is read
-- is so written, and whatever is so written is read. Each law is the contract of a function of
-- `laws`.
use Rattle.std.specs.Prelude.{◌≡◌, ℕ, List, [], ◌∷◌, ◌++◌, map, reverse, None, Some, Ok}
use Rattle.std.specs.List.{flat_map}
use Rattle.cnf_base.specs.Literals.{Literal, Clause}
use Rattle.cnf_base.specs.Grammar.{word_lines}
use Rattle.cnf_base.specs.Printing.{input_of, literal_words}
use Rattle.dimacs.specs.Claim.{claim_of}
use Rattle.dimacs.specs.Formula.{formula_of}
use Rattle.dimacs.specs.Printing.{header_words, IsFormula, status_words, value_words, IsModel}
use Rattle.dimacs.specs.declared.header.Header.{Header}

-- lines of words, without those that have none
abbrev pub filled_lines : List (List (List ℕ)) → List (List (List ℕ))
filled_lines [] = []
filled_lines ([] ∷ lines) = filled_lines lines
filled_lines ((w ∷ ws) ∷ lines) = (w ∷ ws) ∷ filled_lines lines

-- the words of lines, one after another
abbrev pub all_words : List (List (List ℕ)) → List (List ℕ)
all_words lines = flat_map (λ line. line) lines

-- ---- A formula

-- the first line is the header, and the words of all others are the clauses, each ended by a `0`
-- (DIMACS CNF)
pub record FormulaText (lines : List (List (List ℕ))) (h : Header) (clauses : List Clause)
    : Type 0 where
  pub body : List (List (List ℕ))
  pub header_first : filled_lines lines ≡ header_words h ∷ body
  pub clauses_after : all_words body ≡ flat_map literal_words clauses

-- A formula is read without a fault exactly where its text is this.
pub record FormulaIsGrammar : Type 0 where
  pub read_is_written : (bytes : List ℕ) (h : Header) (clauses : List Clause)
      → formula_of (input_of bytes) ≡ record { header = Some h; clauses = clauses; fault = None }
      → IsFormula h clauses × FormulaText (word_lines bytes) h clauses
  pub written_is_read : (bytes : List ℕ) (h : Header) (clauses : List Clause)
      → IsFormula h clauses → FormulaText (word_lines bytes) h clauses
      → formula_of (input_of bytes) ≡ record { header = Some h; clauses = clauses; fault = None }

-- ---- A model

-- one line says that there is a model, and each other one, before it or after it, has values; all
-- the values are the literals and the `0` that ends them (SAT Competition; that the lines may stand
-- in any order is our own profile)
pub record ModelText (lines : List (List (List ℕ))) (literals : List Literal) : Type 0 where
  pub before : List (List (List ℕ))
  pub after : List (List (List ℕ))
  pub one_status : filled_lines lines
      ≡ map value_words before ++ status_words ∷ map value_words after
  pub values : all_words (before ++ after) ≡ literal_words literals

-- A model is read exactly where the output's text is this; the literal that was read last stands
-- first.
pub record ModelIsGrammar : Type 0 where
  pub read_is_written : (bytes : List ℕ) (literals : List Literal)
      → claim_of (input_of bytes) ≡ Ok (reverse literals)
      → IsModel literals × ModelText (word_lines bytes) literals
  pub written_is_read : (bytes : List ℕ) (literals : List Literal)
      → IsModel literals → ModelText (word_lines bytes) literals
      → claim_of (input_of bytes) ≡ Ok (reverse literals)
