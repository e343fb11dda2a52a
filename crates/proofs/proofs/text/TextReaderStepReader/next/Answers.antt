-- An answer that is kept.
use Rattle.proofs.proofs.TextLemmas.{Kept-step, Open-step, text_kept}
use Rattle.{proofs.specs.Code.TextSteps.steps_at, std.proofs.Common.rules}
use Rattle.proofs.proofs.text.TextReaderStepReader.next.Goals as goal

pub returns-in-Some-clause-step : goal.returns-in-Some-clause-step
returns-in-Some-clause-step g c =
    Kept-step _ _ (λ i. steps_at g.P.TextPart.format c.args.self.now.stream.place i)
    c.in-Some.answer _ c.args.step.now (search rules) (search rules)

pub returns-in-Ok-true-clause-step : goal.returns-in-Ok-true-clause-step
returns-in-Ok-true-clause-step g c =
    search (rules, Open-step, text_kept, c.read_step-result.ensures.step)

pub returns-in-Ok-false-clause-step : goal.returns-in-Ok-false-clause-step
returns-in-Ok-false-clause-step g c =
    search (rules, Open-step, text_kept, c.read_step-result.ensures.step)
