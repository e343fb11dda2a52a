-- What the lines hold is what the writer holds: those of the check, or none where memory ran out.
use Rattle.sat_check.proofs.{CheckLemmas.runs_nothing, ReportLemmas.runs_placed}
use Rattle.sat_check.proofs.{TheoremLemmas.drat_placed, drat.run_drat_kept.Goals.{in-None, in-Some}}
use Rattle.std.proofs.Common.{rules}
use Rattle.{sat_check.specs.Report.{drat_proof, rules_of}, theory.specs.Rules.drat}
use Rattle.sat_check.proofs.drat.run_drat_kept.Goals as goal

pub returns : goal.returns
returns g c = drat_placed c.args.options.now (runs_placed (drat (rules_of c.args.options.now))
    c.args.options.now.trace (drat_proof c.args.options.now.binary) _ _ _ _ c.match-session.checked
    c.new-lines.result c.match-session.lines _ _ _ _ _ (search rules) (search rules) (search rules)
    (search rules) (search rules) (elim c.match-session.branch [
      | in-Some w ↦ rw (w.formula-is, w.proof-is, w.lines-is, w.checked-is) w.check_with-checked.ensures
      | in-None w ↦ rw (w.formula-is, w.proof-is, w.lines-is, w.checked-is) (runs_nothing _ _ _ _ _ _
          _ _ (search rules) w.give_up.ensures.outcome w.give_up.ensures.writer)
    ]))
