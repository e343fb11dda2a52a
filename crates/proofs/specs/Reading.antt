-- A proof that is read step by step, in whatever format.
use Rattle.std.specs.Prelude.{ℕ, List, Option, [], None, Some, ◌∷◌, Bool, Result, ◌≡◌, true, false}
use Rattle.std.specs.Prelude.{Ok, Err, ◌≤◌, slice_get}
use Rattle.cnf_base.specs.Stream.{Stream, Suffix}
use Rattle.cnf_base.specs.declared.fault.Fault.TheVariants.{OutOfMemory}
use Rattle.cnf_base.specs.declared.fault.Fault.{Fault}
use Rattle.proofs.specs.Steps.{Step}
use Rattle.proofs.specs.declared.step_end.StepEnd.{StepEnd}

-- a step, where its last `0` stands, and the offset of the byte after that
pub record PlacedStep : Type 0 where
  pub step : Step
  pub end : StepEnd
  pub offset : ℕ

-- The steps before the first fault, and that fault; none where the proof ends cleanly. Where a word
-- or a byte is at fault, the offset of the byte after it; none where the input's end or a failed
-- read is, since nothing follows that could be read.
pub record Proof : Type 0 where
  pub steps : List PlacedStep
  pub fault : Option Fault
  pub fault_end : Option ℕ

-- no step, and a clean end
abbrev pub clean : Proof
clean = record { steps = []; fault = None; fault_end = None }

-- no step, and a fault; where it is that of a word or a byte, the offset of the byte after that
abbrev pub faulty_proof : Fault → Option ℕ → Proof
faulty_proof f end = record { steps = []; fault = Some f; fault_end = end }

-- no step, and this fault
pub record IsFaulty (f : Fault) (p : Proof) : Type 0 where
  pub no_step : p.steps ≡ []
  pub fault : p.fault ≡ Some f

-- a step before the others
abbrev pub with_step : Step → StepEnd → ℕ → Proof → Proof
with_step s end offset p =
    record p { steps = record { step = s; end = end; offset = offset } ∷ p.steps }

-- where a reader stands in its input, the answer that it gives from now on where it has come to an
-- end, where the step ends that it gave last, and how many literals and hints it keeps of what it
-- has read
pub record ProofReading : Type 0 where
  pub stream : Stream
  pub kept : Option (Result Bool Fault)
  pub step_end : Option StepEnd
  pub stored : ℕ

-- A step is the first of what is to come, and ends there; or nothing is to come, and it stays so;
-- or a fault is, and it stays. After want of memory that is the fault that stays. `rest` is what
-- follows of the input.
abbrev pub GivesStep : Result Bool Fault → Option StepEnd → Step → Proof → Proof → Suffix → Type 0
GivesStep (Ok true) end s before after rest =
    (at : StepEnd) × (end ≡ Some at) × (before ≡ with_step s at rest.offset after)
GivesStep (Ok false) end s before after rest = (before ≡ after) × (before ≡ clean)
GivesStep (Err OutOfMemory) end s before after rest = after ≡ faulty_proof OutOfMemory None
GivesStep (Err f) end s before after rest = IsFaulty f before × (after ≡ faulty_proof f None)

-- each step ends at this offset or later, and so does the fault
pub record EndsFrom (n : ℕ) (p : Proof) : Type 0 where
  pub steps : (k : ℕ) (placed : PlacedStep) → slice_get p.steps k ≡ Some placed →
      n ≤ placed.offset
  pub fault : (offset : ℕ) → p.fault_end ≡ Some offset → n ≤ offset

-- No end that was to come was passed, a step's or the fault's: each is where what is still to come
-- begins, or later.
abbrev pub PassesNoEnd : Proof → Suffix → Type 0
PassesNoEnd p rest = EndsFrom rest.offset p
