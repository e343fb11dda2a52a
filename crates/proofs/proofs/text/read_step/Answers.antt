-- A word of a step: a number that was ahead, or another word.
use Rattle.{cnf_base.proofs.TokenLemmas.told, std.proofs.Common.{Ok, Result, rules, ◌≡◌}}
use Rattle.proofs.proofs.TextLemmas.{Between-end, Between-failed, Between-line, Between-start}
use Rattle.proofs.proofs.TextLemmas.{Between-step, Between-stopped, Between-word, moves_told}
use Rattle.proofs.specs.declared.{moved.Moved.{Moved, TheVariants.To}, stopped.Stopped.Stopped}
use Rattle.proofs.proofs.text.read_step.Goals as goal
use Rattle.cnf_base.specs.declared.word.Word.TheVariants as words

pub loop-count-init : goal.loop-count-init
loop-count-init g c = search (rules, Between-start)

-- ---- A number that was ahead

pub loop-count-preserved-in-Some : goal.loop-count-preserved-in-Some
loop-count-preserved-in-Some g c =
    let next : Result (Moved g.row.P.Denot) Stopped = Ok (To c.in-Ok-To.next) in
    let is : c.take_number.result ≡ next = search rules in
    let taken = c.take_number-in-Ok-To.ensures.taken c.in-Some.number c.in-Some.ensures in
    rw c.in-Ok-To.next-is (
      Between-word g.P.TextPart.format _ _ _ _ _ c.loop-count.invariant.0 _
          (words.Number c.in-Some.number) taken (g.P.TextPart.spot c.in-Ok-To.next)
          c.take_number.new.step (search (rules, moves_told)) (search rules) (search rules),
      rw is at c.take_number.ensures.fits,
    )

pub returns-in-Ok-Complete-clause-step : goal.returns-in-Ok-Complete-clause-step
returns-in-Ok-Complete-clause-step g c =
    let taken = c.take_number-in-Ok-Complete.ensures.taken c.in-Some.number c.in-Some.ensures in
    Between-step g.P.TextPart.format _ _ _ _ _ c.loop-count.invariant.0 _
    (words.Number c.in-Some.number) taken _ (search rules) c.take_number.new.step
    (search (rules, moves_told))

pub returns-in-Err-clause-step : goal.returns-in-Err-clause-step
returns-in-Err-clause-step g c =
    let taken = c.take_number-in-Err.ensures.taken c.in-Some.number c.in-Some.ensures in
    rw c.fault_at.ensures (Between-stopped g.P.TextPart.format _ _ _ _ _ c.loop-count.invariant.0 _
    (words.Number c.in-Some.number) taken g.P.TextPart.spot _ c.in-Err.stopped _
    c.take_number.new.step c.take_number.ensures.moves (search rules))

-- ---- Another token

pub loop-count-preserved-in-Ok-To-move_on : goal.loop-count-preserved-in-Ok-To-move_on
loop-count-preserved-in-Ok-To-move_on g c =
    let next : Result (Moved g.row.P.Denot) Stopped = Ok (To c.in-Ok-To-move_on.next) in
    let is : c.move_on.result ≡ next = search rules in
    rw c.in-Ok-To-move_on.next-is (
      Between-word g.P.TextPart.format _ _ _ _ _ c.loop-count.invariant.0 c.in-Ok-Word.place
          c.in-Ok-Word.word (search (rules, told)) (g.P.TextPart.spot c.in-Ok-To-move_on.next)
          c.move_on.new.step (search (rules, moves_told)) (search rules) (search rules),
      rw is at c.move_on.ensures.fits,
    )

pub returns-in-Ok-Complete-move_on-clause-step : goal.returns-in-Ok-Complete-move_on-clause-step
returns-in-Ok-Complete-move_on-clause-step g c =
    Between-step g.P.TextPart.format _ _ _ _ _ c.loop-count.invariant.0 c.in-Ok-Word.place
    c.in-Ok-Word.word (search (rules, told)) _ (search rules) c.move_on.new.step
    (search (rules, moves_told))

pub returns-in-Err-move_on-clause-step : goal.returns-in-Err-move_on-clause-step
returns-in-Err-move_on-clause-step g c =
    rw c.fault_at-in-Err-move_on.ensures (Between-stopped g.P.TextPart.format _ _ _ _ _
    c.loop-count.invariant.0 c.in-Ok-Word.place c.in-Ok-Word.word (search (rules, told))
    g.P.TextPart.spot _ c.in-Err-move_on.stopped _ c.move_on.new.step c.move_on.ensures.moves (search rules))

pub loop-count-preserved : goal.loop-count-preserved
loop-count-preserved g c = (
  Between-line g.P.TextPart.format _ _ _ _ _ c.loop-count.invariant.0 c.in-Ok-LineEnd.field-0-0
      (search (rules, told)) (search rules) (search rules),
  c.loop-count.invariant.1,
)

pub returns-in-Ok-End-clause-step : goal.returns-in-Ok-End-clause-step
returns-in-Ok-End-clause-step g c =
    Between-end g.P.TextPart.format _ _ _ _ _ c.loop-count.invariant.0 c.in-Ok-End.place
    c.at_end.result _ (search (rules, told)) c.at_end.ensures.value

pub returns-in-Err-next_other-clause-step : goal.returns-in-Err-next_other-clause-step
returns-in-Err-next_other-clause-step g c =
    Between-failed g.P.TextPart.format _ _ _ _ _ c.loop-count.invariant.0 _ c.in-Err-next_other.ensures.tokens
