-- What the lines hold is what the writer holds, without the place, and what that means for the bytes.
use Rattle.sat_check.proofs.ReportLemmas.{runs_placed}
use Rattle.sat_check.proofs.TheoremLemmas.{drat_placed, drat_steps_verify, drat_unsatisfiable}
use Rattle.{sat_check.proofs.TheoremLemmas.weakened, std.proofs.Common.rules}
use Rattle.{sat_check.specs.Report.{drat_proof, rules_of}, theory.specs.Rules.drat}
use Rattle.sat_check.proofs.drat.run_drat_with.Goals as goal

pub returns-clause-runs : goal.returns-clause-runs
returns-clause-runs g c = weakened (drat_placed c.args.options.now (runs_placed
    (drat (rules_of c.args.options.now)) c.args.options.now.trace
    (drat_proof c.args.options.now.binary) _ _ _ _ c.check_with-checked.result _ _ _ _ _ _ _
    (search rules) (search rules) (search rules) (search rules) (search rules)
    c.check_with-checked.ensures)) (λ i j x. (x.0, x.1, x.3))

pub returns-clause-reports : goal.returns-clause-reports
returns-clause-reports g c = weakened (returns-clause-runs g c) (λ i j x. x.0.reports)

pub returns-clause-unsatisfiable : goal.returns-clause-unsatisfiable
returns-clause-unsatisfiable g c =
    drat_unsatisfiable c.args.options.now _ _ _ _ _ _ _ _ _ _ (returns-clause-reports g c)

pub returns-clause-steps_verify : goal.returns-clause-steps_verify
returns-clause-steps_verify g c =
    drat_steps_verify c.args.options.now _ _ _ _ _ _ _ _ _ _ (returns-clause-reports g c)
