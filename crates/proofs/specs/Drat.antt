-- The steps of a text in DRAT, as on DRAT-trim's page: an addition is its literals and a `0`, and a
-- deletion is a `d`, its literals and a `0`. That a step may stand over any number of lines and may
-- have no literal, the limit of literals, the faults and their places are our own profile.
use Rattle.std.specs.Prelude.{Bool, true, false}
use Rattle.cnf_base.specs.Stream.{Input}
use Rattle.cnf_base.specs.declared.fault.TextFault.TheVariants.{BadToken}
use Rattle.proofs.specs.Reading.{Proof}
use Rattle.proofs.specs.Steps.{Step, deleting}
use Rattle.proofs.specs.TextSteps.{Move, completes, literal_or_fault, goes, faults, Format}
use Rattle.proofs.specs.TextSteps.{steps_of}

-- where a word stands: at a step's start, or after a word of it
pub data DratSpot : Type 0 where
  at_start : DratSpot
  in_literals : DratSpot

-- `d` is a step's first word alone
abbrev pub drat_d_move : DratSpot → Step → Move DratSpot
drat_d_move at_start s = goes in_literals (deleting s)
drat_d_move in_literals s = faults BadToken

-- ---- All steps

-- whether a step may end the input here
abbrev pub is_start : DratSpot → Bool
is_start at_start = true
is_start in_literals = false

-- a step begins as an addition, with the identifier 0 that all steps have; a number is a literal,
-- or the `0` that ends the step
abbrev pub drat : Format DratSpot
drat =
    record {
      start = at_start;
      is_start = is_start;
      number_move = λ spot. literal_or_fault in_literals completes;
      d_move = drat_d_move;
    }

-- the steps of a whole input
abbrev pub drat_steps : Input → Proof
drat_steps i = steps_of drat i
