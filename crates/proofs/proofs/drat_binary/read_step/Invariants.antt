-- The bytes so far are in the step.
use Rattle.{cnf_base.specs.Stream.most_to_come, proofs.proofs.BinaryLemmas.Between}
use Rattle.proofs.specs.{Binary.BinarySpot, Code.BinaryMoves.IsAt}
use Rattle.proofs.proofs.drat_binary.read_step.Given as goal

abbrev pub invariant-loop-byte : goal.invariant-loop-byte
invariant-loop-byte g l = (spot : BinarySpot) × Between l.fn.source l.source spot l.step
    × IsAt l.part spot

abbrev pub decreases-loop-byte : goal.decreases-loop-byte
decreases-loop-byte g l = most_to_come l.source
