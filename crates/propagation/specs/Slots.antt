-- In how many slots live clauses may stand.
use Rattle.std.specs.FinMap.{FinMap}
use Rattle.std.specs.Ordering.{nat_cmp}
use Rattle.std.specs.Prelude.{ℕ, ◌+◌, ◌*◌, nat_le, if◌then◌else◌}
use Rattle.cnf_base.specs.Literals.{Clause, size}
use Rattle.cnf_base.specs.Maps.{sum_over}
use Rattle.clause_db.specs.Store.{literals_in, slots_for}

-- how many clauses have one literal or none
abbrev pub unit_or_empty_clauses : FinMap nat_cmp Clause → ℕ
unit_or_empty_clauses live = sum_over (λ c. if nat_le 2 (size c) then 0 else 1) live

-- the most slots that the clauses take where none is free: each one, and one more for each four of
-- its literals
abbrev pub slots_needed : FinMap nat_cmp Clause → ℕ
slots_needed live = sum_over (λ c. slots_for (size c)) live

-- The most slots that these live clauses may stand in, free ones too. A clause of two literals or
-- more needs at most three slots for each four literals, and a shorter one needs one. This is four
-- times that, and 16384 more: these are 256 kB where a slot is a cell of 16 bytes.
abbrev pub most_slots : FinMap nat_cmp Clause → ℕ
most_slots live = 3 * literals_in live + 4 * unit_or_empty_clauses live + 16384
