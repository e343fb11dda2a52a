-- How the code follows a proof, in whatever format.
use Rattle.std.specs.Prelude.{Bool, Option, None, Some, Result, Ok, Err, ◌≡◌, true}
use Rattle.cnf_base.specs.Stream.{tells_failure}
use Rattle.cnf_base.specs.declared.fault.Fault.TheVariants.{ReadFailed}
use Rattle.cnf_base.specs.declared.fault.Fault.{Fault}
use Rattle.proofs.specs.Reading.{faulty_proof, Proof, clean, ProofReading}

-- after an end nothing else is to come
abbrev pub proof_unless_ended : Option (Result Bool Fault) → Proof → Proof
proof_unless_ended None p = p
proof_unless_ended (Some (Ok _)) p = clean
proof_unless_ended (Some (Err f)) p = faulty_proof f None

-- a step is no end, and of a failed read that ended it the reader below tells
abbrev pub EndsRightly : ProofReading → Type 0
EndsRightly r =
    (r.kept ≡ Some (Ok true) → ⊥)
    × (r.kept ≡ Some (Err ReadFailed) → tells_failure r.stream.reader ≡ true)
