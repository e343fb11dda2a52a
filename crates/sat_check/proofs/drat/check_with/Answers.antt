-- Want of memory, or the check in the form that was asked for.
use Rattle.proofs.specs.Code.{Binary.binary_to_come, Drat.drat_to_come}
use Rattle.sat_check.proofs.{CheckLemmas.{reports_run, runs_nothing}, FormulaLemmas.unused}
use Rattle.{sat_check.specs.Report.drat_proof, std.proofs.Common.{ap, arith, rules, sym}}
use Rattle.{steps.specs.Session.view_of, theory.specs.Rules.rule_of}
use Rattle.sat_check.proofs.drat.check_with.Goals as goal

pub returns-in_default : goal.returns-in_default
returns-in_default g c = grind (arith, runs_nothing)

pub check-checked-requires-clause-unused : goal.check-checked-requires-clause-unused
check-checked-requires-clause-unused g c = unused _ c.args.session.now c.requires.fresh

pub check-checked-requires-else-options-clause-unused : goal.check-checked-requires-else-options-clause-unused
check-checked-requires-else-options-clause-unused g c = unused _ c.args.session.now c.requires.fresh

pub returns-then-options : goal.returns-then-options
returns-then-options g c = let check = c.check-checked.ensures in reports_run _ _ binary_to_come
    (drat_proof c.args.options.binary) _ _ _ _ _ _ _ _ c.args.lines.now c.check-checked.new.lines
    c.over.ensures (search rules) (λ j. ap (λ b. drat_proof b j) (sym c.if-options.true)) _
    (ap (λ s. rule_of (view_of s).state) c.requires.fresh) _ c.new-reader.ensures check.report.0
    check.report.1 (search rules) check.write_failed check.writer

pub returns-else-options : goal.returns-else-options
returns-else-options g c = let check = c.check-checked-else-options.ensures in reports_run _ _
    drat_to_come (drat_proof c.args.options.binary) _ _ _ _ _ _ _ _ c.args.lines.now
    c.check-checked-else-options.new.lines c.over-else-options.ensures (search rules)
    (λ j. ap (λ b. drat_proof b j) (sym c.if-options.false)) _
    (ap (λ s. rule_of (view_of s).state) c.requires.fresh) _ c.new-reader-else-options.ensures
    check.report.0 check.report.1 (search rules) check.write_failed check.writer
