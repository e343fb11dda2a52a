-- The steps of a proof as text, over any number of lines, in whatever format.
use Rattle.std.specs.Prelude.{Option, None, Some, nat_le, if◌then◌else◌, Bool, ℕ, List, [], ◌∷◌}
use Rattle.cnf_base.specs.Literals.{Literal}
use Rattle.cnf_base.specs.Stream.{Input}
use Rattle.cnf_base.specs.Text.{Listed, Listing, listing_of}
use Rattle.cnf_base.specs.Words.{number_literal}
use Rattle.cnf_base.specs.declared.fault.Fault.TheVariants.{Text, ReadFailed}
use Rattle.cnf_base.specs.declared.fault.TextFault.TheVariants.{LiteralTooLarge, BadToken}
use Rattle.cnf_base.specs.declared.fault.TextFault.TheVariants.{UnterminatedStep}
use Rattle.cnf_base.specs.declared.fault.TextFault.{TextFault}
use Rattle.cnf_base.specs.declared.input.Ending.TheVariants.{End, Failed}
use Rattle.cnf_base.specs.declared.input.Ending.{Ending}
use Rattle.cnf_base.specs.declared.place.Place.{Place}
use Rattle.cnf_base.specs.declared.token.Token.TheVariants as token
use Rattle.cnf_base.specs.declared.word.Number.{Number}
use Rattle.cnf_base.specs.declared.word.Word.TheVariants as words
use Rattle.cnf_base.specs.declared.word.Word.{Word}
use Rattle.proofs.specs.Reading.{Proof, clean, faulty_proof, with_step}
use Rattle.proofs.specs.Steps.{Step, with_literal, named}
use Rattle.proofs.specs.declared.step_end.StepEnd.TheVariants as ends

-- what a word does: the step goes on in some part, it is complete, or the word can't stand there
pub data Move (Part : Type 0) : Type 0 where
  goes : Part → Step → Move Part
  completes : Step → Move Part
  faults : TextFault → Move Part

-- a literal, with which the step goes on in a part, or the `0` that ends the literals
abbrev pub literal_or_end : {Part : Type 0} → Part → (Step → Move Part) → Step → Option Literal →
    Move Part
literal_or_end part ended s (Some l) = goes part (with_literal s l)
literal_or_end part ended s None = ended s

-- what a number does where a literal stands
abbrev pub literal_or_fault : {Part : Type 0} → Part → (Step → Move Part) → Step → Number →
    Move Part
literal_or_fault part ended s n =
    if nat_le n.size 268435455 then literal_or_end part ended s (number_literal n)
    else faults LiteralTooLarge

-- a format: the part before a step's first word, and what a number and a `d` do in each part
pub record Format (Part : Type 0) : Type 0 where
  pub start : Part
  pub is_start : Part → Bool
  pub number_move : Part → Step → Number → Move Part
  pub d_move : Part → Step → Move Part

-- what a word does: no other one stands in a step
abbrev pub move_of : {Part : Type 0} → Format Part → Part → Step → Word → Move Part
move_of format part s (words.Number n) = format.number_move part s n
move_of format part s words.D = format.d_move part s
move_of format part s _ = faults BadToken

-- what the end of the input means, by where it stands
abbrev pub at_end : {Part : Type 0} → Format Part → Part → Place → Ending → Proof
at_end format part p Failed = faulty_proof ReadFailed None
at_end format part p End =
    if format.is_start part then clean else faulty_proof (Text UnterminatedStep p) None

-- what a word's move means; `offset` is that of the byte after the word, and `rest` what follows
abbrev pub on_move : {Part : Type 0} → Format Part → Place → ℕ → Move Part → (Part → Step → Proof) →
    Proof
on_move format p offset (goes part s) rest = rest part s
on_move format p offset (completes s) rest =
    with_step s (ends.Text p) offset (rest format.start (named 0))
on_move format p offset (faults f) rest = faulty_proof (Text f p) (Some offset)

-- the steps that these tokens have, where so much of a step was read before; a line's end means
-- nothing
abbrev pub steps_among : {Part : Type 0} → Format Part → Part → Step → List Listed → Place →
    Ending → Proof
steps_among format part s [] end ending = at_end format part end ending
steps_among format part s ((token.Word p w, offset) ∷ ts) end ending =
    on_move format p offset (move_of format part s w)
    (λ part s. steps_among format part s ts end ending)
steps_among format part s (t ∷ ts) end ending = steps_among format part s ts end ending

-- the steps of a text, where so much of a step was read before
abbrev pub steps_from : {Part : Type 0} → Format Part → Part → Step → Listing → Proof
steps_from format part s l = steps_among format part s l.tokens l.end l.ending

-- the steps of a whole input
abbrev pub steps_of : {Part : Type 0} → Format Part → Input → Proof
steps_of format i = steps_from format format.start (named 0) (listing_of i)
