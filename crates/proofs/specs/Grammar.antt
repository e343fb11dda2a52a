-- What a proof is, as a grammar: whatever is read as steps without a fault is so written, and
-- whatever is so written is read. Each law is the contract of a function of `laws`.
use Rattle.std.specs.Prelude.{◌≡◌, ℕ, ◌<◌, List, map, None, All}
use Rattle.std.specs.List.{flat_map}
use Rattle.cnf_base.specs.Grammar.{text_words}
use Rattle.cnf_base.specs.Printing.{input_of}
use Rattle.cnf_base.specs.Stream.{Input}
use Rattle.proofs.specs.Steps.{Step}
use Rattle.proofs.specs.Reading.{Proof}
use Rattle.proofs.specs.Drat.{drat_steps}
use Rattle.proofs.specs.Binary.{binary_steps}
use Rattle.proofs.specs.Lrat.{lrat_steps}
use Rattle.proofs.specs.Printing.{drat_words, lrat_words, binary_step, IsDratStep, IsLratStep}

-- just these steps are read, and no fault
pub record ReadsAs (p : Proof) (steps : List Step) : Type 0 where
  pub all : map (λ placed. placed.step) p.steps ≡ steps
  pub no_fault : p.fault ≡ None

-- ---- Text

-- a text whose words are those of these steps, one after another, however they stand in lines
pub record IsTextOf (IsStep : Step → Type 0) (step_words : Step → List (List ℕ)) (bytes : List ℕ)
    (steps : List Step) : Type 0 where
  pub within : All IsStep steps
  pub words : text_words bytes ≡ flat_map step_words steps

-- A text is read as steps exactly where it is theirs.
pub record IsGrammar (read : Input → Proof) (IsText : List ℕ → List Step → Type 0) : Type 0 where
  pub read_is_written : (bytes : List ℕ) (steps : List Step)
      → ReadsAs (read (input_of bytes)) steps → IsText bytes steps
  pub written_is_read : (bytes : List ℕ) (steps : List Step)
      → IsText bytes steps → ReadsAs (read (input_of bytes)) steps

abbrev pub IsDratText : List ℕ → List Step → Type 0
IsDratText bytes steps = IsTextOf IsDratStep (λ s. drat_words s.kind s.lits) bytes steps

abbrev pub DratIsGrammar : Type 0
DratIsGrammar = IsGrammar drat_steps IsDratText

abbrev pub IsLratText : List ℕ → List Step → Type 0
IsLratText bytes steps =
    IsTextOf IsLratStep (λ s. lrat_words s.kind s.id s.lits s.hints) bytes steps

abbrev pub LratIsGrammar : Type 0
LratIsGrammar = IsGrammar lrat_steps IsLratText

-- ---- Binary DRAT

-- bytes that are those of these steps, one after another
pub record IsBinaryProof (bytes : List ℕ) (steps : List Step) : Type 0 where
  pub within : All IsDratStep steps
  pub spelled : bytes ≡ flat_map binary_step steps

-- Bytes are read as binary DRAT steps exactly where they are theirs.
pub record BinaryIsGrammar : Type 0 where
  pub read_is_written : (bytes : List ℕ) (steps : List Step) → All (λ b. b < 256) bytes
      → ReadsAs (binary_steps (input_of bytes)) steps → IsBinaryProof bytes steps
  pub written_is_read : (bytes : List ℕ) (steps : List Step)
      → IsBinaryProof bytes steps → ReadsAs (binary_steps (input_of bytes)) steps
