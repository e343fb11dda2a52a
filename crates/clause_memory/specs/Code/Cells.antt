-- The cells of a memory, four words each. A block is the cell at which it begins, and those that go
-- on with it. The first word of a clause's block is its header; then its literals follow.
use Rattle.std.specs.FinMap as maps
use Rattle.std.specs.FinMap.{FinMap}
use Rattle.std.specs.Ordering.{nat_cmp}
use Rattle.std.specs.Prelude.{◌≡◌, ◌≢◌, ℕ, zero, suc, ◌+◌, ◌-◌, ◌*◌, ◌<◌, ◌≤◌, ◌==◌, Bool, true}
use Rattle.std.specs.Prelude.{false, List, [], ◌∷◌, length, take, drop, slice_index, slice_index_or}
use Rattle.std.specs.Prelude.{if◌then◌else◌, sum_by, replicate, Some, None}
use Rattle.cnf_base.specs.Literals.{Clause}
use Rattle.clause_memory.specs.Blocks.{cells_for}
use Rattle.clause_memory.specs.declared.kind.Kind.{Kind}
use Rattle.clause_memory.specs.declared.kind.Kind.TheVariants.{Live, Free, Rest}

-- what a cell is; past the last there is none that begins a block
abbrev pub kind_at : List Kind → ℕ → Kind
kind_at kinds u = slice_index_or kinds u Rest

-- whether a cell goes on with the block of the one before
abbrev pub is_rest : Kind → Bool
is_rest Live = false
is_rest Free = false
is_rest Rest = true

-- where the block of a cell begins
abbrev pub start_of : List Kind → ℕ → ℕ
start_of kinds zero = zero
start_of kinds (suc u) = if is_rest (kind_at kinds (suc u)) then start_of kinds u else suc u

-- a block of so many cells begins at the cell
pub record IsBlock (kinds : List Kind) (s n : ℕ) : Type 0 where
  pub begins : is_rest (kind_at kinds s) ≡ false
  pub some : 0 < n
  pub fits : s + n ≤ length kinds
  pub own : (u : ℕ) → s ≤ u → u < s + n → start_of kinds u ≡ s
  pub alone : (u : ℕ) → u < length kinds → start_of kinds u ≡ s → u < s + n

-- A number is written as the literal with the code of it and 2, since the words are literals. A
-- blank word is the number 0.
abbrev pub blanks : ℕ → List ℕ
blanks n = replicate n 2

-- how many literals follow the header of a block
abbrev pub size_at : List ℕ → ℕ → ℕ
size_at words s = slice_index words (4 * s) - 2

-- the literals of a block
abbrev pub clause_at : List ℕ → ℕ → Clause
clause_at words s = take (size_at words s) (drop (4 * s + 1) words)

-- ---- What is kept

-- how many words aren't blank
abbrev pub written : List ℕ → ℕ
written words = sum_by (λ w. if w == 2 then 0 else 1) words

-- how many words of a cell hold a literal, by what the cell is and what its block begins with: the
-- header of a clause counts all of it, and a free block has none but what wasn't overwritten, of
-- which the first two words link it to another
abbrev pub kept_as : Kind → Kind → List ℕ → ℕ → ℕ
kept_as Live first words u = size_at words u
kept_as Free first words u = written (take 2 (drop (4 * u + 2) words))
kept_as Rest Live words u = 0
kept_as Rest Free words u = written (take 4 (drop (4 * u) words))
kept_as Rest Rest words u = written (take 4 (drop (4 * u) words))

abbrev pub kept_in : List Kind → List ℕ → ℕ → ℕ
kept_in kinds words u = kept_as (kind_at kinds u) (kind_at kinds (start_of kinds u)) words u

-- the sum over the cells from this one on
abbrev pub sum_from : (ℕ → ℕ) → ℕ → List Kind → ℕ
sum_from f n [] = 0
sum_from f n (k ∷ rest) = f n + sum_from f (n + 1) rest

-- how many words hold a literal
unfoldable pub literal_words : List Kind → List ℕ → ℕ
literal_words kinds words = sum_from (kept_in kinds words) 0 kinds

-- ---- The blocks

-- how many cells at the front go on with a block
abbrev pub rests : List Kind → ℕ
rests [] = 0
rests (Live ∷ kinds) = 0
rests (Free ∷ kinds) = 0
rests (Rest ∷ kinds) = rests kinds + 1

-- those of the cells from this one on
abbrev pub blocks_from : ℕ → List Kind → FinMap nat_cmp ℕ
blocks_from n [] = maps.empty
blocks_from n (Live ∷ rest) = maps.insert (blocks_from (n + 1) rest) n (rests rest + 1)
blocks_from n (Free ∷ rest) = maps.insert (blocks_from (n + 1) rest) n (rests rest + 1)
blocks_from n (Rest ∷ rest) = blocks_from (n + 1) rest

-- the number of cells of each block, by the number of the cell at which it begins
unfoldable pub blocks_in : List Kind → FinMap nat_cmp ℕ
blocks_in kinds = blocks_from 0 kinds

-- ---- The clauses

-- those of the cells from this one on
abbrev pub clauses_from : List ℕ → ℕ → List Kind → FinMap nat_cmp Clause
clauses_from words n [] = maps.empty
clauses_from words n (Live ∷ rest) =
    maps.insert (clauses_from words (n + 1) rest) n (clause_at words n)
clauses_from words n (Free ∷ rest) = clauses_from words (n + 1) rest
clauses_from words n (Rest ∷ rest) = clauses_from words (n + 1) rest

-- each clause, by the number of the cell at which its block begins
unfoldable pub clauses_in : List Kind → List ℕ → FinMap nat_cmp Clause
clauses_in kinds words = clauses_from words 0 kinds

-- a clause was put into a slot that had none, with a block of its size; no other block changed
pub record IsPlaced (live live2 : FinMap nat_cmp Clause) (blocks blocks2 : FinMap nat_cmp ℕ)
    (slot : ℕ) (lits : Clause) : Type 0 where
  pub free : maps.get live slot ≡ None
  pub clauses : live2 ≡ maps.insert live slot lits
  pub block : maps.get blocks2 slot ≡ Some (cells_for (length lits))
  pub other_blocks : (s : ℕ) → s ≢ slot → maps.get blocks2 s ≡ maps.get blocks s
