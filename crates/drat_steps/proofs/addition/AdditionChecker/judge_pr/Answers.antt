use Rattle.{drat_steps.proofs.DratLemmas.Steps.answers_filled, std.proofs.Common.{false, true}}
use Rattle.drat_steps.proofs.addition.AdditionChecker.judge_pr.Goals as goal

pub returns-in-Ok-true-clause-answers : goal.returns-in-Ok-true-clause-answers
returns-in-Ok-true-clause-answers g c =
    let now = g.P.Propagate.state _ in let r = c.requires in
    answers_filled now.live _ _ _ r.assumed.assumed r.listed.consistent r.meets r.assumed.no_rup _
    r.listed.filled _ true c.in-Ok-true.field-0-test c.in-Ok-true.ensures.searched

pub returns-in-Ok-false-clause-answers : goal.returns-in-Ok-false-clause-answers
returns-in-Ok-false-clause-answers g c =
    let now = g.P.Propagate.state _ in let r = c.requires in
    answers_filled now.live _ _ _ r.assumed.assumed r.listed.consistent r.meets r.assumed.no_rup _
    r.listed.filled _ false c.in-Ok-false.field-0-test c.in-Ok-false.ensures.searched
