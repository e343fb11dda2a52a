-- What is left of a formula.
use Rattle.std.specs.Prelude.{ℕ, ◌≤◌, ◌≡◌, List, length, Some, slice_get}
use Rattle.cnf_base.specs.Literals.{Clause}
use Rattle.cnf_base.specs.Stream.{Suffix}

-- The token at fault wasn't passed: it ends where what is still to come begins, or later. `ends` is
-- where the clauses end, and then that token, if a token is at fault.
abbrev pub LeavesFault : List Clause → (ends : List ℕ) → Suffix → Type 0
LeavesFault clauses ends rest =
    (offset : ℕ) → slice_get ends (length clauses) ≡ Some offset → rest.offset ≤ offset
