-- What is still to come to a reader of LRAT.
use Rattle.cnf_base.specs.Stream.{Suffix}
use Rattle.proofs.specs.Code.TextSteps.{left_to}
use Rattle.proofs.specs.Lrat.{lrat}
use Rattle.proofs.specs.Reading.{Proof, ProofReading}

-- ---- All steps

-- what is still to come of an input
abbrev pub lrat_to_come : ProofReading → Suffix → Proof
lrat_to_come r i = left_to lrat r i
