-- Want of memory, or the check.
use Rattle.proofs.specs.{Code.Lrat.lrat_to_come, Lrat.lrat_steps}
use Rattle.sat_check.proofs.{CheckLemmas.{reports_run, runs_nothing}, FormulaLemmas.unused}
use Rattle.{std.proofs.Common.{arith, refl, rules}, theory.specs.Rules.lrat}
use Rattle.sat_check.proofs.lrat.check_lrat.Goals as goal

pub returns-in_default : goal.returns-in_default
returns-in_default g c = grind (arith, runs_nothing)

pub check-checked-requires-clause-unused : goal.check-checked-requires-clause-unused
check-checked-requires-clause-unused g c = unused lrat c.args.session.now c.requires.fresh

pub returns : goal.returns
returns g c = let check = c.check-checked.ensures in reports_run _ _ lrat_to_come lrat_steps _ _ _
    _ _ _ _ _ c.args.lines.now c.check-checked.new.lines c.over.ensures (search rules) (λ j. refl)
    lrat (grind arith) _ c.new-reader.ensures check.report.0 check.report.1 (search rules)
    check.write_failed check.writer
