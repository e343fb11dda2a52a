-- What was seen of the formula.
use Rattle.sat_check.proofs.ModelLemmas.{judges_body, judges_fault, judges_refused}
use Rattle.std.proofs.Common.{refl, rules}
use Rattle.sat_check.proofs.judge.judge.Goals as goal

pub returns-in_err-piece-clause-judges : goal.returns-in_err-piece-clause-judges
returns-in_err-piece-clause-judges g c = judges_refused _ _ _ _ refl (search rules)

pub returns-in-Ok-clause-judges : goal.returns-in-Ok-clause-judges
returns-in-Ok-clause-judges g c = judges_body _ _ _ _ c.over.ensures _ _ (search rules)
    c.in-Ok.reader _ c.in-Ok.ensures.opened c.judge_clauses-judged.ensures.judges

pub returns-in-Err-clause-judges : goal.returns-in-Err-clause-judges
returns-in-Err-clause-judges g c = let last = c.in-Err.ensures.refused in
    judges_fault _ _ _ _ c.over.ensures last.0 _ (search rules) _ last.2
