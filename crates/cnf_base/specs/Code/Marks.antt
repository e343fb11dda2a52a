-- The answer that a reader keeps once it is over.
use Rattle.std.specs.Io.KnownBytes.{IsAtEnd}
use Rattle.std.specs.Prelude.{ℕ, Option, None, Some, Result, Ok, Err, ◌≡◌, List}
use Rattle.cnf_base.specs.declared.input.Ending.TheVariants.{End, Failed}
use Rattle.cnf_base.specs.declared.input.Ending.{Ending}

-- how a reader is over by the answer that it keeps
abbrev pub ending_of : {E : Type 0} → Option (Result ℕ E) → Option Ending
ending_of None = None
ending_of (Some (Ok _)) = Some End
ending_of (Some (Err _)) = Some Failed

-- an answer that is kept is an error, or no byte of a reader that is at its end
abbrev pub IsKept : {E : Type 0} → Option (Result ℕ E) → Option (List ℕ) → Type 0
IsKept None left = Unit {0}
IsKept (Some (Ok n)) left = (n ≡ 0) × IsAtEnd left
IsKept (Some (Err _)) left = Unit {0}
