-- The blocks that are free, in a list for each number of cells.
use Rattle.std.specs.Prelude.{◌≡◌, ℕ, ◌+◌, ◌-◌, ◌*◌, true, false, Option, Some, None, List, [], ◌∷◌}
use Rattle.std.specs.Prelude.{slice_index, unwrap_or, ⊤}
use Rattle.cnf_base.specs.Literals.{has}
use Rattle.clause_memory.specs.Code.Cells.{IsBlock, kind_at}
use Rattle.clause_memory.specs.declared.kind.Kind.{Kind}
use Rattle.clause_memory.specs.declared.kind.Kind.TheVariants.{Free}

-- A link is 0, or the number of the cell at which the next block begins and 1. It stands in the
-- first two words of a block, its last 28 bits first.
abbrev pub link_at : List ℕ → ℕ → ℕ
link_at words s =
    slice_index words (4 * s) - 2 + 268435456 * (slice_index words (4 * s + 1) - 2)

-- the link to the first block of a list
abbrev pub link_of : Option ℕ → ℕ
link_of head = unwrap_or head 0

-- the link leads to these blocks, one after the other
abbrev pub LeadsTo : List ℕ → ℕ → List ℕ → Type 0
LeadsTo words link [] = link ≡ 0
LeadsTo words link (s ∷ rest) = (link ≡ s + 1) × LeadsTo words (link_at words s) rest

-- no number stands twice
abbrev pub IsOnce : List ℕ → Type 0
IsOnce [] = ⊤
IsOnce (s ∷ rest) = (has rest s ≡ false) × IsOnce rest

-- each free block stands once in the list for its number of cells, and nothing else does
pub record AreListed (kinds : List Kind) (words : List ℕ) (heads : ℕ → Option ℕ) : Type 0 where
  pub list : ℕ → List ℕ
  pub leads : (n : ℕ) → LeadsTo words (link_of (heads n)) (list n)
  pub once : (n : ℕ) → IsOnce (list n)
  pub free : (n s : ℕ) → has (list n) s ≡ true → kind_at kinds s ≡ Free
  pub block : (n s : ℕ) → has (list n) s ≡ true → IsBlock kinds s n
  pub all : (s : ℕ) → kind_at kinds s ≡ Free → (n : ℕ) × (has (list n) s ≡ true)
