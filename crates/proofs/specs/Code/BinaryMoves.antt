-- What one byte, or the end of the input, was found to do.
use Rattle.std.specs.Prelude.{◌≡◌, ℕ, ◌-◌, ◌^◌, min, List, length, Result, Ok, Err, Bool, true}
use Rattle.std.specs.Prelude.{false, None}
use Rattle.cnf_base.specs.Stream.{Suffix}
use Rattle.cnf_base.specs.declared.fault.Fault.{Fault}
use Rattle.proofs.specs.Binary.{groups_value, BinarySpot, at_tag, in_step, in_number, BinaryMove}
use Rattle.proofs.specs.Binary.{goes, completes, faults}
use Rattle.proofs.specs.Code.Binary.{binary_steps_at}
use Rattle.proofs.specs.Reading.{Proof, clean, faulty_proof}
use Rattle.proofs.specs.Steps.{Step}
use Rattle.proofs.specs.declared.drat_binary.groups.Groups.{Groups}
use Rattle.proofs.specs.declared.drat_binary.part.BinaryPart.TheVariants as part
use Rattle.proofs.specs.declared.drat_binary.part.BinaryPart.{BinaryPart}
use Rattle.proofs.specs.declared.drat_binary.stopped.Stopped.TheVariants.{Binary, OutOfMemory}
use Rattle.proofs.specs.declared.drat_binary.stopped.Stopped.{Stopped}
use Rattle.proofs.specs.declared.moved.Moved.TheVariants.{To, Complete}
use Rattle.proofs.specs.declared.moved.Moved.{Moved}

-- what is kept of a number's bytes, up to the greatest number
pub record KeepsGroups (g : Groups) (bytes : List ℕ) : Type 0 where
  pub value : g.value ≡ min (groups_value bytes) (2 ^ 64 - 1)
  pub weight : g.weight ≡ min (128 ^ length bytes) (2 ^ 64 - 1)

-- the reader stands there
abbrev pub IsAt : BinaryPart → BinarySpot → Type 0
IsAt part.Tag spot = spot ≡ at_tag
IsAt part.Literals spot = spot ≡ in_step
IsAt (part.Number g) spot =
    (bytes : List ℕ) × (spot ≡ in_number g.first bytes) × KeepsGroups g bytes

-- the step after the byte; a refused growth says nothing
abbrev pub MovesBinary : Result (Moved BinaryPart) Stopped → BinaryMove → Step → Type 0
MovesBinary (Ok (To part)) move step =
    (spot : BinarySpot) × (move ≡ goes spot step) × IsAt part spot
MovesBinary (Ok Complete) move step = move ≡ completes step
MovesBinary (Err (Binary f at)) move step = move ≡ faults f at
MovesBinary (Err OutOfMemory) move step = Unit {0}

-- what is to come after the step that was given next
abbrev pub binary_left : Result Bool Fault → ℕ → Suffix → Proof
binary_left (Ok true) at i = binary_steps_at at i
binary_left (Ok false) at i = clean
binary_left (Err f) at i = faulty_proof f None
