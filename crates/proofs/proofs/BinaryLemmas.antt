-- A binary proof's bytes, one at a time.
use Rattle.cnf_base.proofs.StreamLemmas.{Along-bumped, Along-look, Along-map, Along-still}
use Rattle.cnf_base.proofs.StreamLemmas.{Along-then, IsLook-still, Splits-byte, Splits-first}
use Rattle.cnf_base.proofs.StreamLemmas.{most_to_come-bumped, most_to_come-look, shown_end}
use Rattle.cnf_base.specs.{Readers.Keeps, Stream.tells_failure}
use Rattle.cnf_base.specs.Stream.{Along, IsLook, Stream, Suffix, bumped, most_to_come, next_count}
use Rattle.cnf_base.specs.declared.{fault.BinaryFault.BinaryFault, input.Ending.TheVariants.End}
use Rattle.cnf_base.specs.declared.fault.Fault.{Fault, TheVariants.{Binary, OutOfMemory}}
use Rattle.proofs.proofs.TextLemmas.{binary_steps_among-from, gives_fault, on_binary_move-from}
use Rattle.proofs.specs.Binary.{BinaryMove, BinarySpot, at_tag, binary_at_end, binary_move_of}
use Rattle.proofs.specs.{Binary.{completes, faults, goes, on_binary_move}, Code.Whole.RunsOn}
use Rattle.proofs.specs.Code.{Binary.{binary_steps_at, binary_steps_from}, TextMoves.EndsProof}
use Rattle.proofs.specs.Code.{BinaryMoves.{MovesBinary, binary_left}, Reading.proof_unless_ended}
use Rattle.proofs.specs.{Reading.{GivesStep, PassesNoEnd, Proof}, Steps.{Step, named}}
use Rattle.proofs.specs.declared.drat_binary.{part.BinaryPart.BinaryPart, stopped.Stopped.Stopped}
use Rattle.proofs.specs.declared.{moved.Moved.Moved, step_end.StepEnd.{StepEnd, TheVariants.Byte}}
use Rattle.std.proofs.Common.{Bool, Err, None, Ok, Option, Result, Some, [], ap, arith, length}
use Rattle.std.proofs.Common.{refl, rules, slice_index, true, ℕ, ◌<◌, ◌∙◌, ◌∷◌, ◌≡◌, ◌≤◌}

-- from one moment to another bytes of one step were read
pub record Between (old now : Stream) (spot : BinarySpot) (s : Step) : Type 0 where
  pub text : Along old now
      (λ i j. binary_steps_at old.byte_no i ≡ binary_steps_from spot s now.byte_no j)
  pub fewer : most_to_come now ≤ most_to_come old
  pub mark : tells_failure now.reader ≡ tells_failure old.reader

pub Between-none : (s : Stream) → Between s s at_tag (named 0)
Between-none s =
    record { text = Along-still s (binary_steps_at s.byte_no); fewer = omega arith; mark = refl }

-- what is left after an answer, where it is kept if it is an end
pub binary_kept : (result : Result Bool Fault) (kept : Option (Result Bool Fault)) (at : ℕ)
    (i : Suffix) → Keeps result kept
    → binary_left result at i ≡ proof_unless_ended kept (binary_steps_at at i)
binary_kept result kept at i h = search rules

ends_so : (last : Proof) (result : Result Bool Fault) (end : Option StepEnd) (s : Step)
    (before : Proof) (at : ℕ) (j : Suffix) → EndsProof result last → before ≡ last
    → GivesStep result end s before (binary_left result at j) j
ends_so last result end s before at j h h2 = search rules

module _ (old now new : Stream) (spot : BinarySpot) (s : Step) (so_far : Between old now spot s)
    (look : IsLook now new) where
  looked : Along old new (λ i j. binary_steps_at old.byte_no i ≡ binary_steps_from spot s
      new.byte_no j)
  looked =
      let number = look.byte_no in Along-then old now new _ _ _ so_far.text
      (Along-look now new look)
      (λ i j k m q r. cc)

  -- an answer at a moment, what is to come, and that no end was passed
  abbrev Gave : Stream → Result Bool Fault → Option StepEnd → Step → Type 0
  Gave last result end t = Along old last (λ i j.
      GivesStep result end t (binary_steps_at old.byte_no i) (binary_left result last.byte_no j) j
      × PassesNoEnd (binary_steps_at old.byte_no i) j)

  -- so it is of steps that are so
  passes : (p q : Proof) (j : Suffix) → p ≡ q → PassesNoEnd q j → PassesNoEnd p j
  passes p q j is h = rw is h

  -- a byte was taken
  module _ (b : ℕ) (some : 0 < length new.ahead) (first : b ≡ slice_index new.ahead 0) where
    abbrev follows : Suffix → BinaryMove → Proof
    follows j move = on_binary_move new.byte_no j.offset move
        (λ spot s. binary_steps_from spot s (next_count new.byte_no) j)

    abbrev move : BinaryMove
    move = binary_move_of spot s new.byte_no b

    byte_text : Along old (bumped new) (λ i j. binary_steps_at old.byte_no i ≡ follows j move)
    byte_text =
        Along-then old new (bumped new) _ _ _ looked (Along-bumped new b some first) (λ i j k m q r.
        q ∙ ap (binary_steps_from spot s new.byte_no) (Splits-first j (b ∷ []) k r)
        ∙ ap (λ t. follows t move) (Splits-byte j b k r))

    -- whatever the byte did, nothing that was to come ends before what is left
    follows-from : (j : Suffix) (move : BinaryMove) → PassesNoEnd (follows j move) j
    follows-from j move = search (rules, arith, on_binary_move-from, binary_steps_among-from)

    pub Between-byte : (next : BinarySpot) (t : Step) → move ≡ goes next t
        → tells_failure new.reader ≡ tells_failure now.reader → Between old (bumped new) next t
    Between-byte next t is mark = search (rules, byte_text, most_to_come-look, most_to_come-bumped)

    -- what is made of the move is given
    gave : (result : Result Bool Fault) (end : Option StepEnd) (t : Step)
        → ((i j : Suffix) → binary_steps_at old.byte_no i ≡ follows j move → GivesStep result end t
        (binary_steps_at old.byte_no i) (binary_left result (bumped new).byte_no j) j)
        → Gave (bumped new) result end t
    gave result end t gives =
        Along-map old (bumped new) _ _ byte_text (λ i j m q. grind (arith, passes, follows-from))

    pub Between-step : (end : Option StepEnd) → end ≡ Some (Byte new.byte_no) → (t : Step)
        → move ≡ completes t → Gave (bumped new) (Ok true) end t
    Between-step end at t is = search (rules, gave)

    pub Between-fault : (f : BinaryFault) (at : ℕ) (t : Step) → move ≡ faults f at
        → Gave (bumped new) (Err (Binary f at)) None t
    Between-fault f at t is = search (rules, gave, gives_fault)

    pub Between-refused : (t : Step) → Gave (bumped new) (Err OutOfMemory) None t
    Between-refused t = gave (Err OutOfMemory) None t (λ i j q. refl)

  -- and none before the rest
  rest-from : (i j : Suffix) → binary_steps_at old.byte_no i ≡ binary_steps_from spot s
      new.byte_no j
      → PassesNoEnd (binary_steps_at old.byte_no i) j
  rest-from i j is = search (rules, passes, binary_steps_among-from)

  pub Between-end : (result : Result Bool Fault) (end : Option StepEnd) → new.ahead ≡ []
      → new.met ≡ Some End → EndsProof result (binary_at_end spot new.byte_no End)
      → Gave new result end s
  Between-end result end nothing met ends =
      search (rules, looked, shown_end, ends_so, binary_at_end, binary_steps_from, rest-from)

-- literals were taken at once
Between-on : (old now new : Stream) (spot : BinarySpot) (s t : Step) → Between old now spot s
    → RunsOn spot now new s t → Between old new spot t
Between-on old now new spot s t so_far on = grind (arith, Along-then)

-- a byte was taken, and then literals at once
pub Between-run : (old now new taken last : Stream) (spot next : BinarySpot) (s t u : Step)
    → Between old now spot s → IsLook now new → (b : ℕ) → 0 < length new.ahead
    → b ≡ slice_index new.ahead 0 → binary_move_of spot s new.byte_no b ≡ goes next t
    → tells_failure new.reader ≡ tells_failure now.reader → taken ≡ bumped new
    → RunsOn next taken last t u → Between old last next u
Between-run old now new taken last spot next s t u so_far look b some first is mark bump on =
    let after = Between-byte old now new spot s so_far look b some first next t is mark in
    Between-on _ _ _ _ _ _ after (rw (← bump) on)

-- memory was refused there
pub Between-out : (old now : Stream) (spot : BinarySpot) (s t : Step) → Between old now spot s
    → Along old now (λ i j. GivesStep (Err OutOfMemory) None t (binary_steps_at old.byte_no i)
    (binary_left (Err OutOfMemory) now.byte_no j) j × PassesNoEnd (binary_steps_at old.byte_no i) j)
Between-out old now spot s t so_far = Along-map old now _ _ so_far.text
    (λ i j m q. (refl, rest-from old now now spot s so_far (IsLook-still now) i j q))

-- what a byte was found to do, by the answer's pattern, and by the byte's number
pub moves_told : (result answer : Result (Moved BinaryPart) Stopped)
    (spot : BinarySpot) (s t : Step)
    (at known b : ℕ) → MovesBinary result (binary_move_of spot s at b) t → at ≡ known
    → result ≡ answer → MovesBinary answer (binary_move_of spot s known b) t
moves_told result answer spot s t at known b moves number is = search rules
