-- A clause is met, it is the first that isn't, none is left, or there is a fault.
use Rattle.sat_check.proofs.{FormulaLemmas.clause_told, ModelLemmas.{Judging-clause, Judging-done}}
use Rattle.sat_check.{proofs.ModelLemmas.{Judging-fault, Judging-unmet}, specs.ModelReport.meets}
use Rattle.std.{proofs.Common.{arith, false, rules, true, ◌≡◌}, specs.Prelude.Ok}
use Rattle.sat_check.proofs.judge.judge_clauses.Goals as goal

pub returns-then-not-meets-clause-judges : goal.returns-then-not-meets-clause-judges
returns-then-not-meets-clause-judges g c =
    let unmet : meets c.args.model.now c.next.new.clause ≡ false = search rules in
    Judging-unmet _ _ _ c.next.new.self _ c.loop-clause.invariant c.next.new.clause (clause_told
    c.loop-clause.reader c.next.new.self _ (Ok true) _ c.next.ensures.clause (search rules)) unmet

pub loop-clause-preserved : goal.loop-clause-preserved
loop-clause-preserved g c = Judging-clause _ _ _ c.next.new.self _ c.loop-clause.invariant
    c.next.new.clause (grind (arith, clause_told)) (search rules) (search rules) (search rules)

pub returns-clause-judges : goal.returns-clause-judges
returns-clause-judges g c = Judging-done _ _ _ c.next.new.self _ c.loop-clause.invariant
    c.next.new.clause (grind (arith, clause_told))

pub returns-in_err-next-clause-judges : goal.returns-in_err-next-clause-judges
returns-in_err-next-clause-judges g c = Judging-fault _ _ _ c.next.new.self _
    c.loop-clause.invariant c.next.new.clause c.in_err-next.field-0.0 c.from_residual.result
    (search rules) c.in_err-next.ensures.clause
