-- An answer that is kept.
use Rattle.proofs.proofs.{BinaryLemmas.binary_kept, TextLemmas.{Kept-step, Open-step}}
use Rattle.{proofs.specs.Code.Binary.binary_steps_at, std.proofs.Common.rules}
use Rattle.proofs.proofs.drat_binary.DratBinaryStepReader.next.Goals as goal

pub returns-in-Some-clause-step : goal.returns-in-Some-clause-step
returns-in-Some-clause-step g c =
    Kept-step _ _ (λ i. binary_steps_at c.args.self.now.stream.byte_no i) c.in-Some.answer _
    c.args.step.now (search rules) (search rules)

pub returns-in-Ok-false-clause-step : goal.returns-in-Ok-false-clause-step
returns-in-Ok-false-clause-step g c =
    search (rules, Open-step, binary_kept, c.read_step-result.ensures.step)
