use Rattle.std.proofs.Common.{true, false}
use Rattle.drat_steps.proofs.DratLemmas.Steps.{answers_none, answers_searched}
use Rattle.drat_steps.proofs.addition.AdditionChecker.judge_rat.Goals as goal

pub returns-in_default-clause-answers : goal.returns-in_default-clause-answers
returns-in_default-clause-answers g c =
    answers_none _ c.args.lits.now c.in_default.ensures.value c.requires.no_rup

pub returns-in-Ok-true-clause-answers : goal.returns-in-Ok-true-clause-answers
returns-in-Ok-true-clause-answers g c =
    answers_searched _ c.args.lits.now _ c.in-Some.ensures.value _ c.requires.assumed
    c.requires.no_rup _ c.neg.ensures _ true c.in-Ok-true.field-0-test c.in-Ok-true.ensures.searched

pub returns-in-Ok-false-clause-answers : goal.returns-in-Ok-false-clause-answers
returns-in-Ok-false-clause-answers g c =
    answers_searched _ c.args.lits.now _ c.in-Some.ensures.value _ c.requires.assumed
    c.requires.no_rup _ c.neg.ensures _ false c.in-Ok-false.field-0-test c.in-Ok-false.ensures.searched
