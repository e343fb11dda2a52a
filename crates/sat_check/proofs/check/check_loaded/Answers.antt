-- The formula's line broke off, a clause is empty, or the proof is checked.
use Rattle.{cnf_base.proofs.StreamLemmas.{Along-map, Along-none}, report.specs.Lines.formula_line}
use Rattle.{report.specs.Lines.steps_line, std.proofs.Common.{None, arith, rules, sym, ◌∙◌}}
use Rattle.sat_check.proofs.CheckLemmas.{LeavesProof-checked, LeavesProof-empty, TellsFault-none}
use Rattle.sat_check.proofs.OutcomeLemmas.{Outcome-line, no_verdict}
use Rattle.sat_check.proofs.ReportLemmas.{checks_rest, checks_some, verified_report}
use Rattle.sat_check.proofs.check.check_loaded.Goals as goal

pub returns-in-Err-clause-report : goal.returns-in-Err-clause-report
returns-in-Err-clause-report g c = Along-map _ _ _ _ (Along-none _) (λ j k m same rule clauses l.
    let some = checks_some rule _ clauses l c.args.trace c.args.header _ in
    let stopped = c.in-Err.ensures.stopped (formula_line c.args.header) in
    (_, some.1, grind arith, grind (arith, no_verdict)))

pub returns-then-verified-clause-report : goal.returns-then-verified-clause-report
returns-then-verified-clause-report g c = let ended = c.without_step-then-verified in
    let line = formula_line c.args.header in let concluded = c.conclude-status.ensures.outcome
    (steps_line 0 c.peak.result) c.steps_line-line.ensures in
    Along-map _ _ _ _ (Along-none _) (λ j k m e rule clauses l. let done = verified_report rule _
    clauses l c.args.trace c.args.header _ _ c.args.lines.now c.write_line.new.lines
    c.conclude-status.new.lines _ (search rules) c.peak.ensures (c.in_default.ensures.written line
    c.formula_line.ensures) c.in_default.ensures.ok.0 concluded in (
      done.0,
      done.1,
      rw ended.ensures done.2,
      LeavesProof-empty rule None clauses _ _ k ended.result (search rules) (TellsFault-none None _
          ended.result (search rules) (λ m. grind arith)) (sym l.verified ∙ search rules),
    ))

pub returns-clause-report : goal.returns-clause-report
returns-clause-report g c = let line = formula_line c.args.header in
    Along-map _ _ _ _ c.check_proof.ensures.report (λ j k m rest rule clauses l. (
      _,
      checks_rest rule _ clauses l c.args.trace c.args.header _ rest.0 (search rules) rest.1,
      Outcome-line _ c.args.lines.now c.write_line.new.lines _ line rest.0
          (c.in_default.ensures.written line c.formula_line.ensures) c.in_default.ensures.ok.0
          rest.2,
      LeavesProof-checked rule _ clauses l _ _ _ k _ (search rules) rest.3,
    ))
