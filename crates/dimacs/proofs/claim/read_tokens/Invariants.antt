-- What was said so far is the output's.
use Rattle.cnf_base.specs.Stream.{most_to_come}
use Rattle.dimacs.{specs.Claim.nothing, proofs.ClaimLemmas.Hears}
use Rattle.dimacs.proofs.claim.read_tokens.Given as goal

abbrev pub invariant-loop-place : goal.invariant-loop-place
invariant-loop-place g l = Hears l.fn.scanner l.scanner nothing l.said

abbrev pub decreases-loop-place : goal.decreases-loop-place
decreases-loop-place g l = most_to_come l.scanner
