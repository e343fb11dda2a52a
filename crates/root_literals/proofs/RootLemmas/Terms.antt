-- Short names of what the lemmas speak of.
use Rattle.{cnf_base.specs.Literals.{Clause, Literal}, root_literals.specs.Order.each_in_order}
use Rattle.std.{proofs.Common.{Option, nat_cmp, ℕ}, specs.FinMap.FinMap}
use Rattle.theory.specs.Propagation.{Live}
use Rattle.std.specs.FinMap as maps

-- the clauses in their slots, and as they are shown
abbrev pub Clauses : Type 0
Clauses = FinMap nat_cmp Clause

abbrev pub shown : Clauses → Live
shown live = maps.get (each_in_order live)

-- which slot has the reason of a literal
abbrev pub ReasonOf : Type 0
ReasonOf = Literal → Option ℕ
