-- Proofs as they are printed plainly, and that they are read back as they were. Each law is the
-- contract of a function of `laws`.
use Rattle.std.specs.Prelude.{◌≡◌, ℕ, ◌+◌, ◌-◌, ◌≤◌, ℤ, pos, negsuc, List, [], ◌∷◌, ◌++◌, length}
use Rattle.std.specs.Prelude.{map, reverse, codes, Option, None, IsTrue, All}
use Rattle.std.specs.Fmt.{decimal, signed_decimal}
use Rattle.std.specs.Int.Digits.{digits_of}
use Rattle.std.specs.List.{flat_map, list_all}
use Rattle.cnf_base.specs.Literals.{Literal}
use Rattle.cnf_base.specs.declared.fault.Fault.{Fault}
use Rattle.cnf_base.specs.Printing.{input_of, words_line, is_literal, literal_words}
use Rattle.proofs.specs.declared.step_buf.StepKind.{StepKind}
use Rattle.proofs.specs.declared.step_buf.StepKind.TheVariants.{Add, Delete}
use Rattle.proofs.specs.Steps.{Step, is_small, is_hint}
use Rattle.proofs.specs.Reading.{Proof}
use Rattle.proofs.specs.Drat.{drat_steps}
use Rattle.proofs.specs.Binary.{binary_steps}
use Rattle.proofs.specs.Lrat.{lrat_steps}

-- what a law says of a proof that is read: its steps, each with the offset of the byte after its
-- last `0`, and its fault
pub record ReadStep : Type 0 where
  pub step : Step
  pub offset : ℕ

-- what is compared of a proof: its steps without their places, and its fault
pub record ReadProof : Type 0 where
  pub steps : List ReadStep
  pub fault : Option Fault

-- the same of a proof that was read
abbrev pub read_of : Proof → ReadProof
read_of p =
    record {
      steps = map (λ placed. record { step = placed.step; offset = placed.offset }) p.steps;
      fault = p.fault;
    }

-- steps that are printed one after another from an offset on, where these bytes follow the last `0`
-- in each step's text
abbrev pub printed_steps : List ℕ → (Step → List ℕ) → ℕ → List Step → List ReadStep
printed_steps end text offset [] = []
printed_steps end text offset (s ∷ ss) =
    record { step = s; offset = offset + length (text s) - length end }
    ∷ printed_steps end text (offset + length (text s)) ss

-- a proof of exactly these steps, with a clean end
abbrev pub proof_of : List ℕ → (Step → List ℕ) → List Step → ReadProof
proof_of end text steps = record { steps = printed_steps end text 0 steps; fault = None }

-- ---- DRAT

-- a step's words (DRAT-trim's page): an addition is its literals and a `0`, and a deletion has a
-- `d` before them
abbrev pub drat_words : StepKind → List Literal → List (List ℕ)
drat_words Add ls = literal_words ls
drat_words Delete ls = codes "d" ∷ literal_words ls

-- a step in a line of its own
abbrev pub drat_line : Step → List ℕ
drat_line s = words_line (drat_words s.kind s.lits)

-- a step of DRAT within the limits: it has literals alone
pub record IsDratStep (s : Step) : Type 0 where
  pub id : s.id ≡ 0
  pub hints : s.hints ≡ []
  pub literals : IsTrue (list_all (is_literal 268435455) s.lits)

-- A DRAT proof that is printed as text is read back: exactly its steps, and a clean end.
abbrev pub DratIsReadBack : Type 0
DratIsReadBack = (steps : List Step) → All IsDratStep steps →
    read_of (drat_steps (input_of (flat_map drat_line steps))) ≡ proof_of
    (codes "\n") drat_line steps

-- ---- Binary DRAT

-- a number's groups of 7 bits, lowest first
abbrev pub seven_bit_groups : ℕ → List ℕ
seven_bit_groups n = reverse (digits_of 128 n)

-- the bytes of groups: all but the last have their high bit set
abbrev pub group_bytes : List ℕ → List ℕ
group_bytes [] = []
group_bytes (g ∷ []) = g ∷ []
group_bytes (g ∷ h ∷ gs) = (128 + g) ∷ group_bytes (h ∷ gs)

-- a number (DRAT-trim's page)
abbrev pub number_bytes : ℕ → List ℕ
number_bytes n = group_bytes (seven_bit_groups n)

-- the byte that a step begins with, `a` or `d` (DRAT-trim's page)
abbrev pub tag_bytes : StepKind → List ℕ
tag_bytes Add = codes "a"
tag_bytes Delete = codes "d"

-- a step (DRAT-trim's page): its tag, its literals, and a byte 0
abbrev pub binary_step : Step → List ℕ
binary_step s = tag_bytes s.kind ++ flat_map number_bytes s.lits ++ 0 ∷ []

-- A DRAT proof that is printed in binary is read back: exactly its steps, and a clean end.
abbrev pub BinaryIsReadBack : Type 0
BinaryIsReadBack = (steps : List Step) → All IsDratStep steps →
    read_of (binary_steps (input_of (flat_map binary_step steps))) ≡ proof_of [] binary_step steps

-- ---- LRAT

-- hints, or the identifiers that are deleted, and the `0` that ends them
abbrev pub hint_words : List ℤ → List (List ℕ)
hint_words hs = map signed_decimal hs ++ codes "0" ∷ []

-- a step's words (LRAT 2017): an addition is its identifier, its literals, a `0`, its hints and a
-- `0`, and a deletion an identifier, a `d`, the identifiers that are deleted and a `0`
abbrev pub lrat_words : StepKind → ℕ → List Literal → List ℤ → List (List ℕ)
lrat_words Add id ls hs = decimal id ∷ literal_words ls ++ hint_words hs
lrat_words Delete id ls hs = decimal id ∷ codes "d" ∷ hint_words hs

-- a step in a line of its own
abbrev pub lrat_line : Step → List ℕ
lrat_line s = words_line (lrat_words s.kind s.id s.lits s.hints)

-- a step of LRAT within the limits: a deletion has no literals
pub record IsLratStep (s : Step) : Type 0 where
  pub some : 1 ≤ s.id
  pub small : IsTrue (is_small s.id)
  pub literals : IsTrue (list_all (is_literal 268435455) s.lits)
  pub deletion : s.kind ≡ Delete → s.lits ≡ []
  pub hints : IsTrue (list_all (is_hint s.kind) s.hints)

-- An LRAT proof that is printed as text is read back: exactly its steps, and a clean end.
abbrev pub LratIsReadBack : Type 0
LratIsReadBack = (steps : List Step) → All IsLratStep steps →
    read_of (lrat_steps (input_of (flat_map lrat_line steps))) ≡ proof_of
    (codes "\n") lrat_line steps

-- ---- Examples

-- the steps of the example on DRAT-trim's page, and two of LRAT; the literal 2 * v is the variable
-- v, and 2 * v + 1 its complement
abbrev pub example_drat : List Step
example_drat =
    record { kind = Delete; id = 0; lits = 127 ∷ 16387 ∷ []; hints = [] }
    ∷ record { kind = Add; id = 0; lits = 258 ∷ 16383 ∷ []; hints = [] } ∷ []

-- two steps of LRAT
abbrev pub example_lrat : List Step
example_lrat =
    record { kind = Add; id = 5; lits = 3 ∷ 4 ∷ []; hints = pos 4 ∷ negsuc 0 ∷ pos 3 ∷ [] }
    ∷ record { kind = Delete; id = 5; lits = []; hints = pos 1 ∷ pos 12 ∷ [] } ∷ []

-- The laws speak of them, and this is what they look like.
abbrev pub ProofsLookSo : Type 0
ProofsLookSo =
    All IsDratStep example_drat
    × (flat_map drat_line example_drat ≡ codes "d -63 -8193 0\n129 -8191 0\n")
    ×
    (flat_map binary_step example_drat ≡ 100 ∷ 127 ∷ 131 ∷ 128 ∷ 1 ∷ 0 ∷ 97 ∷ 130 ∷ 2 ∷ 255
    ∷ 127 ∷ 0 ∷ [])
    × All IsLratStep example_lrat
    × (flat_map lrat_line example_lrat ≡ codes "5 -1 2 0 4 -1 3 0\n5 d 1 12 0\n")
