-- The formula was loaded, or it has a fault.
use Rattle.cnf_base.proofs.{SeenLemmas.seen_is_some, StreamLemmas.{Along-map, Along-none}}
use Rattle.sat_check.proofs.{CheckLemmas.fault_told, ReportLemmas.reports_checked}
use Rattle.{std.proofs.Common.arith, theory.specs.Rules.rule_of}
use Rattle.sat_check.proofs.check.check.Goals as goal

pub check_loaded-requires-clause-loaded : goal.check_loaded-requires-clause-loaded
check_loaded-requires-clause-loaded g c = let loads = c.in-Ok.ensures.loads in
    let some = seen_is_some _ _ loads.seen in grind arith

pub returns-in-Ok-clause-report : goal.returns-in-Ok-clause-report
returns-in-Ok-clause-report g c = (
  c.in-Ok.ensures.loads.seen,
  Along-map _ _ _ _ c.check_loaded.ensures.report
      (grind (arith, reports_checked, c.in-Ok.ensures.loads.fact)),
)

pub returns-in-Err-clause-report : goal.returns-in-Err-clause-report
returns-in-Err-clause-report g c = let loads = c.in-Err.ensures.loads in (
  loads.seen,
  Along-map _ _ _ _ (Along-none _) (λ j k m e i s. let told = fault_told
      (rule_of (g.S.ProofSession.shown c.args.session.now).state) c.args.trace
      (g.S.ProofSession.shown c.load.new.session) c.in-Err.fault i
      (g.R.StepReader.to_come c.args.reader.now j)
      (g.R.StepReader.stream c.args.reader.now).reader k c.args.lines.now
      c.break_off-status.new.lines c.by_fault.result (loads.fact i s).0 (grind arith)
      in (told.0, told.1, (loads.fact i s).1)),
)
