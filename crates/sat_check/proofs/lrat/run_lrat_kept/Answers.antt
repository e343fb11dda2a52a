-- What the lines hold is what the writer holds: those of the check, or none where memory ran out.
use Rattle.{proofs.specs.Lrat.lrat_steps, sat_check.proofs.CheckLemmas.runs_nothing}
use Rattle.sat_check.proofs.{ReportLemmas.runs_placed, lrat.run_lrat_kept.Goals.{in-None, in-Some}}
use Rattle.{std.proofs.Common.rules, theory.specs.Rules.lrat}
use Rattle.sat_check.proofs.lrat.run_lrat_kept.Goals as goal

pub returns : goal.returns
returns g c = runs_placed lrat c.args.options.now.trace lrat_steps _ _ _ _ c.match-session.checked
    c.new-lines.result c.match-session.lines _ _ _ _ _ (search rules) (search rules) (search rules)
    (search rules) (search rules) (elim c.match-session.branch [
      | in-Some w ↦ rw (w.formula-is, w.proof-is, w.lines-is, w.checked-is) w.check_lrat-checked.ensures
      | in-None w ↦ rw (w.formula-is, w.proof-is, w.lines-is, w.checked-is) (runs_nothing _ _ _ _ _ _
          _ _ (search rules) w.give_up.ensures.outcome w.give_up.ensures.writer)
    ])
