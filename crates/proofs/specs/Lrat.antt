-- The steps of a text in LRAT (Cruz-Filipe, Heule and others 2017; that a step may stand over any
-- number of lines, the faults, their places and the order of judging are our own profile).
use Rattle.std.specs.Prelude.{nat_le, Bool, if◌then◌else◌, ℤ, pos, neg_ℤ, true, false}
use Rattle.cnf_base.specs.Stream.{Input}
use Rattle.cnf_base.specs.declared.fault.TextFault.TheVariants.{BadToken, IdTooLarge}
use Rattle.cnf_base.specs.declared.word.Number.{Number}
use Rattle.proofs.specs.Reading.{Proof}
use Rattle.proofs.specs.Steps.{is_small, named, Step, with_hint, deleting}
use Rattle.proofs.specs.TextSteps.{Move, goes, faults, literal_or_fault, completes, Format}
use Rattle.proofs.specs.TextSteps.{steps_of}

-- ---- One word of a step

-- where a word stands: at a step's identifier, just after it, where a `d` may stand too, among the
-- literals or the hints of an addition, or among the identifiers of a deletion
pub data LratSpot : Type 0 where
  at_identifier : LratSpot
  after_identifier : LratSpot
  in_literals : LratSpot
  in_hints : LratSpot
  in_deletion : LratSpot

-- whether a number is `0`
abbrev pub is_zero : Number → Bool
is_zero n = nat_le n.size 0

-- a number with its sign
abbrev pub signed : Number → ℤ
signed n = if n.is_negative then neg_ℤ (pos n.size) else pos n.size

-- an identifier is a number from 1 to its limit
abbrev pub identifier : Number → Move LratSpot
identifier n =
    if n.is_negative then faults BadToken
    else (if is_zero n then faults BadToken
    else (if is_small n.size then goes after_identifier (named n.size)
    else faults IdTooLarge))

-- a literal, or the `0` after which the hints stand
abbrev pub literal : Step → Number → Move LratSpot
literal s n = literal_or_fault in_literals (goes in_hints) s n

-- a hint of either sign, or the `0` that ends the step
abbrev pub hint : Step → Number → Move LratSpot
hint s n =
    if is_small n.size then
    (if is_zero n then completes s else goes in_hints (with_hint s (signed n)))
    else faults IdTooLarge

-- an identifier of a deletion, or the `0` that ends the step
abbrev pub deleted : Step → Number → Move LratSpot
deleted s n =
    if n.is_negative then faults BadToken
    else
    (if is_small n.size then
    (if is_zero n then completes s else goes in_deletion (with_hint s (pos n.size)))
    else faults IdTooLarge)

-- what a number does, by where it stands
abbrev pub lrat_number_move : LratSpot → Step → Number → Move LratSpot
lrat_number_move at_identifier s n = identifier n
lrat_number_move after_identifier s n = literal s n
lrat_number_move in_literals s n = literal s n
lrat_number_move in_hints s n = hint s n
lrat_number_move in_deletion s n = deleted s n

-- `d` stands just after the identifier alone
abbrev pub lrat_d_move : LratSpot → Step → Move LratSpot
lrat_d_move after_identifier s = goes in_deletion (deleting s)
lrat_d_move _ s = faults BadToken

-- ---- All steps

-- whether the input may end here
abbrev pub is_identifier : LratSpot → Bool
is_identifier at_identifier = true
is_identifier _ = false

-- a step begins with its identifier
abbrev pub lrat : Format LratSpot
lrat =
    record {
      start = at_identifier;
      is_start = is_identifier;
      number_move = lrat_number_move;
      d_move = lrat_d_move;
    }

-- the steps of a whole input
abbrev pub lrat_steps : Input → Proof
lrat_steps i = steps_of lrat i
