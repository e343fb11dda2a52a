use Rattle.std.proofs.Common.{arith, rules}
use Rattle.drat_steps.proofs.DratLemmas.Steps.{conflicts_filled, listed_inconsistent}
use Rattle.drat_steps.proofs.addition.AdditionChecker.judge.Goals.{in-Err, in-Ok, in-Ok-2}
use Rattle.drat_steps.proofs.addition.AdditionChecker.judge.Goals as goal

pub returns-clause-answers : goal.returns-clause-answers
returns-clause-answers g c = elim c.match-fill.branch [
  | in-Err w ↦ rw w.answer-is (search rules)
  | in-Ok w ↦ rw w.answer-is (listed_inconsistent _ c.args.lits.now c.args.witness.now
      (grind (arith, conflicts_filled)))
  | in-Ok-2 w ↦ rw w.answer-is (search (rules, w.judge_consistent-answer.ensures.answers))
]
