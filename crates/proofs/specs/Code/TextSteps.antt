-- How the code follows the steps of a text.
use Rattle.cnf_base.specs.Stream.{Suffix}
use Rattle.cnf_base.specs.Text.{Listing, listing_at}
use Rattle.cnf_base.specs.declared.place.Place.{Place}
use Rattle.proofs.specs.Code.Reading.{proof_unless_ended}
use Rattle.proofs.specs.Reading.{Proof, ProofReading}
use Rattle.proofs.specs.Steps.{named}
use Rattle.proofs.specs.TextSteps.{Format, steps_from}

-- the steps of a text
abbrev pub steps_listed : {Part : Type 0} → Format Part → Listing → Proof
steps_listed format l = steps_from format format.start (named 0) l

-- the steps from a place on
abbrev pub steps_at : {Part : Type 0} → Format Part → Place → Suffix → Proof
steps_at format p i = steps_listed format (listing_at p i)

-- what is still to come to a reader of the format
abbrev pub left_to : {Part : Type 0} → Format Part → ProofReading → Suffix → Proof
left_to format r i = proof_unless_ended r.kept (steps_at format r.stream.place i)
