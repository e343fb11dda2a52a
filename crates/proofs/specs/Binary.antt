-- The steps of a proof in binary DRAT, as on DRAT-trim's page: a step is the byte `a` or `d`,
-- numbers, and a byte 0. A number is written in groups of 7 bits, lowest first, where all bytes but
-- the last have their high bit set; 2v is the variable v, and 2v + 1 its complement. That the last
-- group is not empty, the limit of literals, the faults, their byte numbers and the order of
-- judging are our own profile.
use Rattle.std.specs.Prelude.{ℕ, ◌+◌, ◌*◌, ◌%◌, List, [], ◌∷◌, ◌==◌, if◌then◌else◌, nat_le, ◌++◌}
use Rattle.std.specs.Prelude.{suc, None, Some}
use Rattle.cnf_base.specs.Stream.{next_count, Input}
use Rattle.cnf_base.specs.declared.fault.BinaryFault.TheVariants.{BadTag, LiteralTooLarge}
use Rattle.cnf_base.specs.declared.fault.BinaryFault.TheVariants.{BadNumber, UnterminatedStep}
use Rattle.cnf_base.specs.declared.fault.BinaryFault.{BinaryFault}
use Rattle.cnf_base.specs.declared.fault.Fault.TheVariants.{Binary, ReadFailed}
use Rattle.cnf_base.specs.declared.input.Ending.TheVariants.{End, Failed}
use Rattle.cnf_base.specs.declared.input.Ending.{Ending}
use Rattle.proofs.specs.Reading.{Proof, clean, faulty_proof, with_step}
use Rattle.proofs.specs.Steps.{Step, deleting, with_literal, named}
use Rattle.proofs.specs.declared.step_end.StepEnd.TheVariants.{Byte}

-- ---- One byte of a step

-- the number that these bytes spell
abbrev pub groups_value : List ℕ → ℕ
groups_value [] = 0
groups_value (b ∷ bs) = b % 128 + 128 * groups_value bs

-- where a byte stands: at a step's tag, at the start of a number or the step's end, or inside a
-- number, of which the first byte had this number and these bytes were read
pub data BinarySpot : Type 0 where
  at_tag : BinarySpot
  in_step : BinarySpot
  in_number : ℕ → List ℕ → BinarySpot

-- what a byte does: the step goes on, it is complete, or something is wrong at the byte with this
-- number
pub data BinaryMove : Type 0 where
  goes : BinarySpot → Step → BinaryMove
  completes : Step → BinaryMove
  faults : BinaryFault → ℕ → BinaryMove

-- what a step's first byte does: `a` is 97, `d` is 100
abbrev pub tag_move : Step → ℕ → ℕ → BinaryMove
tag_move s at b =
    if b == 97 then goes in_step s
    else (if b == 100 then goes in_step (deleting s)
    else faults BadTag at)

-- a whole number, with its last byte; a literal is 2 at least
abbrev pub binary_number_move : Step → ℕ → ℕ → ℕ → BinaryMove
binary_number_move s first last n =
    if last == 0 then faults BadNumber first
    else (if nat_le n 1 then faults BadNumber first
    else (if nat_le n 536870911 then goes in_step (with_literal s n)
    else faults LiteralTooLarge first))

-- one more byte of a number
abbrev pub group_move : Step → ℕ → List ℕ → ℕ → BinaryMove
group_move s first bytes b =
    if nat_le 128 b then goes (in_number first (bytes ++ b ∷ [])) s
    else binary_number_move s first b (groups_value (bytes ++ b ∷ []))

-- what a byte does, by where it stands; `at` is its number
abbrev pub binary_move_of : BinarySpot → Step → ℕ → ℕ → BinaryMove
binary_move_of at_tag s at b = tag_move s at b
binary_move_of in_step s at b = if b == 0 then completes s else group_move s at [] b
binary_move_of (in_number first bytes) s at b = group_move s first bytes b

-- ---- All steps

-- what the end of the input means, by where it stands
abbrev pub binary_at_end : BinarySpot → ℕ → Ending → Proof
binary_at_end spot at Failed = faulty_proof ReadFailed None
binary_at_end at_tag at End = clean
binary_at_end _ at End = faulty_proof (Binary UnterminatedStep at) None

-- what the move of the byte with this number means; `offset` is that of the byte after it, and
-- `rest` what follows
abbrev pub on_binary_move : ℕ → ℕ → BinaryMove → (BinarySpot → Step → Proof) → Proof
on_binary_move at offset (goes spot s) rest = rest spot s
on_binary_move at offset (completes s) rest = with_step s (Byte at) offset (rest at_tag (named 0))
on_binary_move at offset (faults f first) rest = faulty_proof (Binary f first) (Some offset)

-- the steps of bytes, of which the first has this number and this offset; the number goes no
-- further than the greatest one
abbrev pub binary_steps_among : BinarySpot → Step → (at offset : ℕ) → List ℕ → Ending → Proof
binary_steps_among spot s at offset [] ending = binary_at_end spot at ending
binary_steps_among spot s at offset (b ∷ bs) ending =
    on_binary_move at (suc offset) (binary_move_of spot s at b)
    (λ spot s. binary_steps_among spot s (next_count at) (suc offset) bs ending)

-- the steps of a whole input
abbrev pub binary_steps : Input → Proof
binary_steps i = binary_steps_among at_tag (named 0) 1 0 i.bytes i.ending
