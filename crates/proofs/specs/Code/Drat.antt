-- What is still to come to a reader of DRAT as text.
use Rattle.cnf_base.specs.Stream.{Suffix}
use Rattle.proofs.specs.Code.TextSteps.{left_to}
use Rattle.proofs.specs.Drat.{drat}
use Rattle.proofs.specs.Reading.{Proof, ProofReading}

-- ---- All steps

-- what is still to come of an input
abbrev pub drat_to_come : ProofReading → Suffix → Proof
drat_to_come r i = left_to drat r i
