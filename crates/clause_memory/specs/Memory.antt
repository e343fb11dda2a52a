-- What a memory of clauses is seen as (our own profile).
use Rattle.std.specs.FinMap.{FinMap}
use Rattle.std.specs.Ordering.{nat_cmp}
use Rattle.std.specs.Prelude.{ℕ, ◌+◌, ◌/◌, length}
use Rattle.cnf_base.specs.Literals.{Clause}
use Rattle.cnf_base.specs.Maps.{sum_over}

-- a memory, as its callers see it
pub record MemoryState : Type 0 where
  -- the live clauses, each in its slot
  pub live : FinMap nat_cmp Clause
  -- how many slots there are, free ones too: no clause is in a slot from this number on
  pub slots : ℕ
  -- how many literals of clauses it keeps
  pub stored : ℕ

-- the sum of the lengths of the clauses
abbrev pub literals_in : FinMap nat_cmp Clause → ℕ
literals_in clauses = sum_over length clauses

-- the most slots that a clause of so many literals takes: one, and one more for each four literals
abbrev pub slots_for : ℕ → ℕ
slots_for literals = literals / 4 + 1
