-- What one word, or the end of the input, was found to do.
use Rattle.std.specs.Prelude.{◌≡◌, Result, Ok, Err, Bool, IsTrue, true, false, None}
use Rattle.cnf_base.specs.Text.{Listing}
use Rattle.cnf_base.specs.declared.fault.Fault.{Fault}
use Rattle.cnf_base.specs.declared.fault.Fault.TheVariants as faults
use Rattle.cnf_base.specs.declared.place.Place.{Place}
use Rattle.proofs.specs.Reading.{Proof, clean, faulty_proof}
use Rattle.proofs.specs.Steps.{Step}
use Rattle.proofs.specs.TextSteps as steps
use Rattle.proofs.specs.TextSteps.{Move, goes, completes, Format}
use Rattle.proofs.specs.Code.TextSteps.{steps_listed}
use Rattle.proofs.specs.declared.moved.Moved.TheVariants.{To, Complete}
use Rattle.proofs.specs.declared.moved.Moved.{Moved}
use Rattle.proofs.specs.declared.stopped.Stopped.TheVariants.{Text, OutOfMemory}
use Rattle.proofs.specs.declared.stopped.Stopped.{Stopped}

-- the step after the word, where `spot` says at which spot each part stands; a refused growth says
-- nothing
abbrev pub MovesText : {Part Spot : Type 0} → (Part → Spot) → Result (Moved Part) Stopped →
    Move Spot → Step → Type 0
MovesText spot (Ok (To part)) move step = move ≡ goes (spot part) step
MovesText spot (Ok Complete) move step = move ≡ completes step
MovesText spot (Err (Text f)) move step = move ≡ steps.faults f
MovesText spot (Err OutOfMemory) move step = Unit {0}

-- the fault of the word at this place, or want of memory
abbrev pub fault_at : Stopped → Place → Fault
fault_at (Text f) p = faults.Text f p
fault_at OutOfMemory p = faults.OutOfMemory

-- the part that comes next can follow what was read of the step
abbrev pub FitsMoved : {Part : Type 0} → (Part → Step → Bool) → Result (Moved Part) Stopped → Step →
    Type 0
FitsMoved fits (Ok (To part)) step = IsTrue (fits part step)
FitsMoved fits (Ok Complete) step = Unit {0}
FitsMoved fits (Err e) step = Unit {0}

-- what is to come after the step that was given next
abbrev pub text_left : {Part : Type 0} → Format Part → Result Bool Fault → Listing → Proof
text_left format (Ok true) l = steps_listed format l
text_left format (Ok false) l = clean
text_left format (Err f) l = faulty_proof f None

-- the end of the input was met between two steps, or inside one
abbrev pub EndsProof : Result Bool Fault → Proof → Type 0
EndsProof (Ok true) p = ⊥
EndsProof (Ok false) p = p ≡ clean
EndsProof (Err f) p = p ≡ faulty_proof f None
