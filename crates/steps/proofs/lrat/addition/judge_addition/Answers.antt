use Rattle.std.proofs.Common.{arith, rules}
use Rattle.steps.proofs.LratLemmas.{answers_open, first_is, unless_map}
use Rattle.steps.proofs.lrat.addition.judge_addition.Goals as goal

pub returns-in-Some-clause-answer : goal.returns-in-Some-clause-answer
returns-in-Some-clause-answer c =
    let clause = c.args.clause.now in
    let pivot = c.in-Some.pivot.now in let split = first_is clause pivot c.in-Some.ensures.value in
    let is_end = rw c.in-Open.is at c.walk_units.ensures.end in
    search (rules, arith, unless_map, answers_open)
