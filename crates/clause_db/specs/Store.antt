-- Sums over the clauses of a store, which is seen as its memory is.
use Rattle.std.specs.FinMap as maps
use Rattle.std.specs.FinMap.{FinMap}
use Rattle.std.specs.Ordering.{nat_cmp}
use Rattle.std.specs.List.{list_any}
use Rattle.std.specs.Prelude.{◌≡◌, ℕ, Bool, List, Some, IsTrue, if◌then◌else◌}
use Rattle.cnf_base.specs.Literals.{Clause, Literal, complement, has, size}
use Rattle.cnf_base.specs.Maps.{sum_over}
pub use Rattle.clause_memory.specs.Memory.{MemoryState, slots_for}

-- a store with nothing in it
abbrev pub no_clauses : MemoryState
no_clauses = record { live = maps.empty; slots = 0; stored = 0 }

-- the sum of the sizes of the clauses
abbrev pub literals_in : FinMap nat_cmp Clause → ℕ
literals_in clauses = sum_over size clauses

-- how many of the clauses have the literal
abbrev pub copies_with : FinMap nat_cmp Clause → Literal → ℕ
copies_with clauses l = sum_over (λ c. if has c l then 1 else 0) clauses

-- the clause has a literal and its complement, so every assignment satisfies it
abbrev pub is_tautology : Clause → Bool
is_tautology c = list_any (λ l. has c (complement l)) c

-- the literals touch the clause in the slot: it has the complement of one of them
pub record IsTouchedAt (live : FinMap nat_cmp Clause) (lits : List Literal) (slot : ℕ) :
    Type 0 where
  pub clause : Clause
  pub at : maps.get live slot ≡ Some clause
  pub touched : IsTrue (list_any (λ l. has clause (complement l)) lits)
