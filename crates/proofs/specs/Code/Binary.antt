-- What is still to come to a reader of binary DRAT.
use Rattle.std.specs.Prelude.{ℕ}
use Rattle.cnf_base.specs.Stream.{Suffix}
use Rattle.proofs.specs.Binary.{BinarySpot, at_tag, binary_steps_among}
use Rattle.proofs.specs.Code.Reading.{proof_unless_ended}
use Rattle.proofs.specs.Reading.{Proof, ProofReading}
use Rattle.proofs.specs.Steps.{Step, named}

-- ---- All steps

-- the steps from the byte with this number on, where so much of a step was read before
abbrev pub binary_steps_from : BinarySpot → Step → ℕ → Suffix → Proof
binary_steps_from spot s at i = binary_steps_among spot s at i.offset i.bytes i.ending

-- the steps from a byte on
abbrev pub binary_steps_at : ℕ → Suffix → Proof
binary_steps_at at i = binary_steps_from at_tag (named 0) at i

-- what is still to come of an input
abbrev pub binary_to_come : ProofReading → Suffix → Proof
binary_to_come r i = proof_unless_ended r.kept (binary_steps_at r.stream.byte_no i)
