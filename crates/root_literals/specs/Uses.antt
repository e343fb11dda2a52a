-- How many of the literals that are true with nothing assumed have a reason with a literal (our own
-- profile).
use Rattle.std.specs.Prelude.{ℕ, ◌+◌, ◌≤◌, Bool, false, Option, Some, None, List, [], ◌∷◌}
use Rattle.std.specs.Prelude.{if◌then◌else◌, length, take, unwrap_or}
use Rattle.cnf_base.specs.Literals.{Literal, Clause, has}
use Rattle.tables.specs.ByKey.{at}
use Rattle.theory.specs.Propagation.{Live}
use Rattle.root_literals.specs.declared.uses.Uses.{Uses}

-- the clause in the slot, where there is a slot and a clause in it
abbrev pub clause_in : Live → Option ℕ → Option Clause
clause_in live None = None
clause_in live (Some s) = live s

-- whether there is a clause that has the literal
abbrev pub is_in : Option Clause → Literal → Bool
is_in None k = false
is_in (Some c) k = has c k

-- how many of the literals have a reason with the literal `k`
abbrev pub uses_of : Live → (Literal → Option ℕ) → List Literal → Literal → ℕ
uses_of live reason_of [] k = 0
uses_of live reason_of (l ∷ lits) k =
    (if is_in (clause_in live (reason_of l)) k then 1 else 0) + uses_of live reason_of lits k

-- how often the literal is counted
abbrev pub times : Uses → Literal → ℕ
times uses k = unwrap_or (at uses.counts k) 0

-- the reasons of the first literals are counted by each literal that they have, if not more
pub record AreCounted (live : Live) (reason_of : Literal → Option ℕ) (lits : List Literal)
    (uses : Uses) : Type 0 where
  pub inside : uses.counted ≤ length lits
  pub enough : (k : Literal) →
      uses_of live reason_of (take uses.counted lits) k ≤ times uses k
