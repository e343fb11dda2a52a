-- How far a formula is read.
use Rattle.std.specs.Prelude.{ℕ, ◌+◌, ◌≤◌, ◌≡◌, Some}
use Rattle.cnf_base.specs.Stream.{Input, Reader, bytes_read}
use Rattle.dimacs.specs.Formula.{fault_end}

-- No more of a formula was read than its first fault takes, also where memory or the writer failed:
-- where a token is at fault, at most 65536 bytes past its end were read.
abbrev pub ReadsNoFurtherThanFault : (formula : Input) → (old new : Reader) → Type 0
ReadsNoFurtherThanFault formula old new =
    (offset : ℕ) → fault_end formula ≡ Some offset → bytes_read old new ≤ offset + 65536
