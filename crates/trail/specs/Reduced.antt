-- Clauses that a set of literals reduces, as DPR proofs have it.
use Rattle.std.specs.Prelude.{◌&&◌, Bool, not}
use Rattle.std.specs.List.{list_any}
use Rattle.cnf_base.specs.Literals.{Literal, Clause, complement}

-- whether the set makes a literal of the clause false and none true: the set reduces the clause, as
-- DPR proofs have it
abbrev pub is_reduced : (Literal → Bool) → Clause → Bool
is_reduced in_set c = list_any (λ l. in_set (complement l)) c && not (list_any in_set c)
