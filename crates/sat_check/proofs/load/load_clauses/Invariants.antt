-- The clauses so far were input.
use Rattle.{cnf_base.specs.Stream.most_to_come, sat_check.proofs.FormulaLemmas.Loading}
use Rattle.theory.specs.Rules.{rule_of}
use Rattle.sat_check.proofs.load.load_clauses.Given as goal

abbrev pub invariant-loop-clause : goal.invariant-loop-clause
invariant-loop-clause g l =
    Loading (rule_of (g.S.ProofSession.shown l.fn.session).state) l.fn.reader l.reader
    (g.S.ProofSession.shown l.session)

abbrev pub decreases-loop-clause : goal.decreases-loop-clause
decreases-loop-clause g l = most_to_come l.reader.stream
