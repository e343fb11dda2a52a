-- The words so far are in the step.
use Rattle.{cnf_base.specs.Stream.most_to_come, proofs.proofs.TextLemmas.Between}
use Rattle.std.proofs.Common.{IsTrue}
use Rattle.proofs.proofs.text.read_step.Given as goal

abbrev pub invariant-loop-count : goal.invariant-loop-count
invariant-loop-count g l =
    Between g.P.TextPart.format l.fn.scanner l.scanner (g.P.TextPart.spot l.part) l.step
    × IsTrue (g.P.TextPart.fits l.part l.step)

abbrev pub decreases-loop-count : goal.decreases-loop-count
decreases-loop-count g l = most_to_come l.scanner
