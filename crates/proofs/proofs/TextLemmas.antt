-- A proof's tokens, one at a time.
use Rattle.cnf_base.proofs.ListingLemmas.{EndFrom, Gives-from, listing_at-from}
use Rattle.cnf_base.proofs.StreamLemmas.{Along-map, Along-none, Along-still, Along-then}
use Rattle.{cnf_base.specs.Readers.Keeps, std.proofs.Common.{suc, true, ℕ, ◌<◌, ◌∙◌, ◌∷◌, ◌≡◌, ◌≤◌}}
use Rattle.cnf_base.specs.Stream.{Along, Stream, Suffix, most_to_come, next_count, tells_failure}
use Rattle.cnf_base.specs.{Text.{Gives, Listed, Listing, listing_at}, declared.input.Ending.Ending}
use Rattle.{cnf_base.specs.declared.fault.Fault.Fault, proofs.specs.Code.Reading.proof_unless_ended}
use Rattle.cnf_base.specs.declared.fault.{Fault.TheVariants.{ReadFailed, Text}, TextFault.TextFault}
use Rattle.cnf_base.specs.declared.input.{Ending.TheVariants.End, ReadFailed.ReadFailed as Cut}
use Rattle.cnf_base.specs.declared.{place.Place.Place, token.Token.Token, word.Word.Word}
use Rattle.proofs.specs.Binary.{BinaryMove, BinarySpot, binary_at_end, binary_move_of}
use Rattle.proofs.specs.{Binary.{binary_steps_among, on_binary_move}, declared.moved.Moved.Moved}
use Rattle.proofs.specs.Code.TextMoves.{EndsProof, MovesText, fault_at, text_left}
use Rattle.proofs.specs.{Code.TextSteps.{steps_at, steps_listed}, declared.step_end.StepEnd.StepEnd}
use Rattle.proofs.specs.Reading.{EndsFrom, GivesStep, IsFaulty, PassesNoEnd, Proof, clean}
use Rattle.proofs.specs.{Reading.faulty_proof, Steps.{Step, named}}
use Rattle.proofs.specs.TextSteps.{Format, Move, at_end, completes, faults, goes, move_of, on_move}
use Rattle.proofs.specs.{TextSteps.{steps_among, steps_from}, declared.stopped.Stopped.Stopped}
use Rattle.std.proofs.Common.{Bool, Err, List, None, Ok, Option, Result, Some, [], ap, arith, rules}
use Rattle.cnf_base.specs.declared.token.Token.TheVariants as token
use Rattle.proofs.specs.declared.step_end.StepEnd.TheVariants as ends

-- ---- Where the steps of a proof end, and its fault

-- ---- As text

module _ {Part : Type 0} (format : Format Part) (n : ℕ) where
  at_end-from : (part : Part) (p : Place) (ending : Ending)
      → EndsFrom n (at_end format part p ending)
  at_end-from part p ending = search rules

  pub on_move-from : (p : Place) (offset : ℕ) (move : Move Part) (rest : Part → Step → Proof)
      → n ≤ offset → ((part : Part) (s : Step) → EndsFrom n (rest part s))
      → EndsFrom n (on_move format p offset move rest)
  on_move-from p offset move rest h h2 = search rules

  pub steps_among-from : (part : Part) (s : Step) (ts : List Listed) (p : Place) (ending : Ending)
      → EndFrom n ts → EndsFrom n (steps_among format part s ts p ending)
  steps_among-from part s [] p ending h = at_end-from part p ending
  steps_among-from part s ((token.Word q w, offset) ∷ ts) p ending h =
      on_move-from q offset (move_of format part s w) _ h.0
      (λ part s. steps_among-from part s ts p ending h.1)
  steps_among-from part s (t ∷ ts) p ending h = steps_among-from part s ts p ending h.1

-- ---- In binary

binary_at_end-from : (n : ℕ) (spot : BinarySpot) (at : ℕ) (ending : Ending)
    → EndsFrom n (binary_at_end spot at ending)
binary_at_end-from n spot at ending = search rules

pub on_binary_move-from : (n at offset : ℕ) (move : BinaryMove) (rest : BinarySpot → Step → Proof)
    → n ≤ offset → ((spot : BinarySpot) (s : Step) → EndsFrom n (rest spot s))
    → EndsFrom n (on_binary_move at offset move rest)
on_binary_move-from n at offset move rest h h2 = search rules

pub binary_steps_among-from : (n : ℕ) (spot : BinarySpot) (s : Step) (at offset : ℕ) (bs : List ℕ)
    (ending : Ending) → n ≤ offset
    → EndsFrom n (binary_steps_among spot s at offset bs ending)
binary_steps_among-from n spot s at offset [] ending h = binary_at_end-from n spot at ending
binary_steps_among-from n spot s at offset (b ∷ bs) ending h =
    on_binary_move-from n at (suc offset) (binary_move_of spot s at b) _ (omega (arith, h))
    (λ spot s. binary_steps_among-from n spot s (next_count at) (suc offset) bs ending
    (omega (arith, h)))

-- ---- After an end

-- Before an end, what a reader gave is what was read; and an answer that ends it is kept.
pub Open-step : (coming : Stream → Suffix → Proof) (old here new : Stream)
    (kept now : Option (Result Bool Fault)) (result answer : Result Bool Fault)
    (end : Option StepEnd) (s : Step) (left : Result Bool Fault → Suffix → Proof) → here ≡ old
    → kept ≡ None → result ≡ answer
    → ((j : Suffix) → left answer j ≡ proof_unless_ended now (coming new j))
    → Along old new (λ i j. GivesStep result end s (coming old i) (left result j) j × PassesNoEnd
    (coming old i) j)
    → Along here new (λ i j. GivesStep answer end s (proof_unless_ended kept (coming here i))
    (proof_unless_ended now (coming new j)) j
    × PassesNoEnd (proof_unless_ended kept (coming here i)) j)
Open-step coming old here new kept now result answer end s left same none is keeps run = grind arith

-- a fault is what comes, and it stays
pub gives_fault : (f : Fault) (end : Option StepEnd) (s : Step) (p q : Proof) (rest : Suffix)
    → IsFaulty f p → q ≡ faulty_proof f None → GivesStep (Err f) end s p q rest
gives_fault f end s p q rest h h2 = search rules

-- so it is, wherever the fault ends
pub IsFaulty-from : (f : Fault) (end : Option ℕ) (p : Proof)
    → p ≡ record { steps = []; fault = Some f; fault_end = end } → IsFaulty f p
IsFaulty-from f end p is =
    record { no_step = ap (λ x. x.steps) is; fault = ap (λ x. x.fault) is }

pub Kept-step : (stream : Stream) (kept : Option (Result Bool Fault)) (coming : Suffix → Proof)
    (answer : Result Bool Fault) (end : Option StepEnd) (s : Step) → kept ≡ Some answer
    → (kept ≡ Some (Ok true) → ⊥) → Along stream stream (λ i j. GivesStep answer end s
    (proof_unless_ended kept (coming i)) (proof_unless_ended kept (coming j)) j
    × PassesNoEnd (proof_unless_ended kept (coming i)) j)
Kept-step stream kept coming answer end s is none =
    grind (arith, proof_unless_ended (Some answer) clean, Along-none stream)

-- what is left after an answer, where it is kept if it is an end
pub text_kept : {P : Type 0} (format : Format P) (result : Result Bool Fault)
    (kept : Option (Result Bool Fault)) (l : Listing) → Keeps result kept
    → text_left format result l ≡ proof_unless_ended kept (steps_listed format l)
text_kept format result kept l h = search rules

ends_so : {P : Type 0} (format : Format P) (last : Proof) (result : Result Bool Fault)
    (end : Option StepEnd) (s : Step) (before : Proof) (l : Listing) (rest : Suffix)
    → EndsProof result last → before ≡ last
    → GivesStep result end s before (text_left format result l) rest
ends_so format last result end s before l rest h h2 = search rules

pub moves_told : {P S : Type 0} (spot : P → S) (result answer : Result (Moved P) Stopped)
    (m : Move S) (s : Step) → MovesText spot result m s → result ≡ answer
    → MovesText spot answer m s
moves_told spot result answer m s h h2 = search rules

-- a token was given
abbrev pub GivesToken : Stream → Stream → Result Token Cut → Type 0
GivesToken now new result =
    Along now new (λ i j. Gives result (listing_at now.place i) (listing_at new.place j) j)

-- from one moment to another words of one step were read
pub record Between {P : Type 0} (format : Format P) (old now : Stream) (part : P) (s : Step)
    : Type 0 where
  pub text : Along old now (λ i j.
      steps_at format old.place i ≡ steps_from format part s (listing_at now.place j))
  pub fewer : most_to_come now ≤ most_to_come old
  pub mark : tells_failure now.reader ≡ tells_failure old.reader

pub Between-start : {P : Type 0} (format : Format P) (s : Stream)
    → Between format s s format.start (named 0)
Between-start format s = search (rules, arith, Along-still, steps_listed, listing_at)

module _ {P : Type 0} (format : Format P) (old now new : Stream) (part : P) (s : Step)
    (so_far : Between format old now part s) where
  pub Between-line : (p : Place) → GivesToken now new (Ok (token.LineEnd p))
      → most_to_come new < most_to_come now → tells_failure new.reader ≡ tells_failure now.reader
      → Between format old new part s
  Between-line p gives fewer mark = grind (arith, Along-then, steps_from)

  -- an answer, what is to come, and that no end was passed
  abbrev Gave : Result Bool Fault → Option StepEnd → Step → Type 0
  Gave result end t = Along old new (λ i j. GivesStep result end t (steps_at format old.place i)
      (text_left format result (listing_at new.place j)) j
      × PassesNoEnd (steps_at format old.place i) j)

  -- so it is of steps that are so
  passes : (p q : Proof) (j : Suffix) → p ≡ q → PassesNoEnd q j → PassesNoEnd p j
  passes p q j is h = rw is h

  module _ (p : Place) (w : Word) (gives : GivesToken now new (Ok (token.Word p w))) where
    abbrev follows : Suffix → Move P → Proof
    follows j move = on_move format p j.offset move
        (λ part s. steps_from format part s (listing_at new.place j))

    abbrev move : Move P
    move = move_of format part s w

    word_text : Along old new (λ i j. steps_at format old.place i ≡ follows j move)
    word_text = Along-then old now new _ _ _ so_far.text gives
        (λ i j k m q r. q ∙ ap (steps_from format part s) r)

    -- whatever the word did, nothing that was to come ends before what is left
    follows-from : (j : Suffix) (move : Move P) → PassesNoEnd (follows j move) j
    follows-from j move = search (rules, arith, on_move-from, steps_among-from, listing_at-from)

    pub Between-word : (next : P) (t : Step) → move ≡ goes next t
        → most_to_come new < most_to_come now → tells_failure new.reader ≡ tells_failure now.reader
        → Between format old new next t
    Between-word next t is fewer mark = search (rules, word_text)

    -- what is made of the move is given
    gave : (result : Result Bool Fault) (end : Option StepEnd) (t : Step)
        → ((i j : Suffix) → steps_at format old.place i ≡ follows j move → GivesStep result end t
        (steps_at format old.place i) (text_left format result (listing_at new.place j)) j)
        → Gave result end t
    gave result end t gives = Along-map old new _ _ word_text
        (λ i j m q. (gives i j q, passes _ (follows j move) j q (follows-from j move)))

    pub Between-step : (end : Option StepEnd) → end ≡ Some (ends.Text p) → (t : Step)
        → move ≡ completes t → Gave (Ok true) end t
    Between-step end at t is = search (rules, gave)

    pub Between-fault : (f : TextFault) (t : Step) → move ≡ faults f → Gave (Err (Text f p)) None t
    Between-fault f t is = search (rules, gave, gives_fault, IsFaulty-from)

    pub Between-stopped : {Part : Type 0} (spot : Part → P) (result : Result (Moved Part) Stopped)
        (stopped : Stopped) (end : Option StepEnd) (t : Step) → MovesText spot result move t
        → result ≡ Err stopped → Gave (Err (fault_at stopped p)) end t
    Between-stopped spot result stopped end t h h2 = search (rules, Between-fault, moves_told, gave)

  -- and none before the rest
  rest-from : (result : Result Token Cut) (i j k : Suffix)
      → Gives result (listing_at now.place j) (listing_at new.place k) k
      → steps_at format old.place i ≡ steps_from format part s (listing_at now.place j)
      → PassesNoEnd (steps_at format old.place i) k
  rest-from result i j k gives is = grind (arith, passes, steps_from, steps_among-from, Gives-from)

  pub Between-end : (p : Place) (result : Result Bool Fault) (end : Option StepEnd)
      → GivesToken now new (Ok (token.End p)) → EndsProof result (at_end format part p End)
      → Gave result end s
  Between-end p result end gives ends = Along-then old now new _ _ _ so_far.text gives
      (λ i j k m q r. grind (arith, ends_so, at_end, ends, steps_from, rest-from))

  pub Between-failed : (cut : Cut) → GivesToken now new (Err cut) → Gave (Err ReadFailed) None s
  Between-failed cut gives =
      grind (arith, Along-then, gives_fault, IsFaulty-from, rest-from, steps_from, faulty_proof)
