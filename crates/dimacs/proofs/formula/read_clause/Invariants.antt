-- The literals so far are the clause's.
use Rattle.{cnf_base.specs.Stream.most_to_come, dimacs.proofs.FormulaLemmas.Between}
use Rattle.dimacs.proofs.formula.read_clause.Given as goal

abbrev pub invariant-loop-count : goal.invariant-loop-count
invariant-loop-count g l = Between l.header l.complete l.fn.scanner l.scanner l.fn.clause l.clause

abbrev pub decreases-loop-count : goal.decreases-loop-count
decreases-loop-count g l = most_to_come l.scanner
