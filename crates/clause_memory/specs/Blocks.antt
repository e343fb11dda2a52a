-- What a memory of blocks is seen as (our own profile).
use Rattle.std.specs.FinMap as maps
use Rattle.std.specs.FinMap.{FinMap}
use Rattle.std.specs.Ordering.{nat_cmp}
use Rattle.std.specs.List.{swap}
use Rattle.std.specs.Prelude.{◌≡◌, ℕ, ◌+◌, ◌-◌, ◌/◌, ◌<◌, ◌≤◌, ◌==◌, Some, length, max, slice_index}
use Rattle.std.specs.Prelude.{if◌then◌else◌}
use Rattle.cnf_base.specs.Literals.{Clause, Literal}
use Rattle.cnf_base.specs.Maps.{sum_over}
use Rattle.clause_memory.specs.Memory.{MemoryState}

-- a memory of blocks, as its callers see it
pub record BlocksState : Type 0 where
  -- the live clauses, each in its slot
  pub live : FinMap nat_cmp Clause
  -- by slot the number of cells of its block, whether it has a clause or is free
  pub blocks : FinMap nat_cmp ℕ
  -- how many of its words hold a literal of a clause
  pub stored : ℕ

-- how many cells of four words a block for so many literals has, with its header of one word
abbrev pub cells_for : ℕ → ℕ
cells_for literals = literals / 4 + 1

-- the cells of all blocks
abbrev pub cells_in : FinMap nat_cmp ℕ → ℕ
cells_in blocks = sum_over (λ n. n) blocks

-- what it is as a memory, which has a slot for each cell
abbrev pub memory_of : BlocksState → MemoryState
memory_of blocks =
    record { live = blocks.live; slots = cells_in blocks.blocks; stored = blocks.stored }

-- how many blocks have so many cells
abbrev pub blocks_with : ℕ → FinMap nat_cmp ℕ → ℕ
blocks_with n blocks = sum_over (λ m. if m == n then 1 else 0) blocks

-- how many clauses need so many cells
abbrev pub clauses_with : ℕ → FinMap nat_cmp Clause → ℕ
clauses_with n clauses = sum_over (λ c. if cells_for (length c) == n then 1 else 0) clauses

-- A clause that needs `added` cells was to come to the live ones. Of each number of cells there are
-- no more blocks than before, or no more than clauses with it. So over all calls there are never
-- more than clauses were alive at once, and one more where one was refused.
abbrev pub AddsFewBlocks : FinMap nat_cmp ℕ → FinMap nat_cmp ℕ → FinMap nat_cmp Clause → ℕ → Type 0
AddsFewBlocks old new live added = (n : ℕ) → blocks_with n new ≤
    max (blocks_with n old) (clauses_with n live + (if n == added then 1 else 0))

-- The clause in the slot has `l` and `other` at its front, in this order or the other, and `next`
-- behind them at `to`.
abbrev pub CanRewatch : FinMap nat_cmp Clause → ℕ → Literal → Literal → ℕ → Literal → Type 0
CanRewatch live slot other next to l = (c : Clause) × (from : ℕ) × (maps.get live slot ≡ Some c)
    × (from < 2) × (slice_index c from ≡ l) × (slice_index c (1 - from) ≡ other)
    × (2 ≤ to) × (to < length c) × (slice_index c to ≡ next)

-- in that clause alone `other` comes first, and what stands at `to` comes next, where `l` goes
abbrev pub IsRewatched : FinMap nat_cmp Clause → FinMap nat_cmp Clause → ℕ → Literal → ℕ → Literal →
    Type 0
IsRewatched old new slot other to l = (c : Clause) (from : ℕ) → maps.get old slot ≡ Some c →
    from < 2 → slice_index c from ≡ l → slice_index c (1 - from) ≡ other →
    new ≡ maps.insert old slot (swap (swap c 0 (1 - from)) 1 to)
