-- A step, the end, or a fault.
use Rattle.{report.specs.Lines.end_line, sat_check.specs.Code.Checking.Standing}
use Rattle.sat_check.proofs.CheckLemmas.{Checking-end, Checking-fault, Checking-start}
use Rattle.sat_check.proofs.CheckLemmas.{Checking-step, Checking-stop, TellsFault-none, step_told}
use Rattle.std.{proofs.Common.{None, arith, false, rules, sym, true, ◌∙◌}, specs.Prelude.Ok}
use Rattle.sat_check.proofs.check_proof.check_proof.Goals as goal

pub loop-number-init : goal.loop-number-init
loop-number-init g c = Checking-start _ _ _ _ c.requires.whole c.requires.open

pub returns-in-Some-clause-report : goal.returns-in-Some-clause-report
returns-in-Some-clause-report g c =
    let new : Standing = record {
      stream = g.R.StepReader.stream c.next.new.self;
      to_come = g.R.StepReader.to_come c.next.new.self;
    } in
    Checking-stop _ _ _ new _ _ _ _ _ c.loop-number.invariant _ c.next.new.step
    c.saturating_add-number.result (omega (arith, c.loop-number.invariant.counts))
    (step_told _ new _ (Ok true) _ _ c.next.ensures.step (search rules)) c.by_step.result
    c.check_step.new.lines (rw c.by_step.ensures.status c.in-Some.ensures.stops) (record {
      refuses = grind arith;
      refused = grind arith;
      only = grind arith;
      lost = grind arith;
      none_lost = grind arith;
      fault = c.by_step.ensures.well_formed;
      well_formed = λ m. rw (sym c.by_step.ensures.status ∙ m) at c.in-Some.ensures.told;
    })

pub loop-number-preserved : goal.loop-number-preserved
loop-number-preserved g c =
    Checking-step _ _ _ _ _ _ _ _ _ c.loop-number.invariant _ c.next.new.step
    c.saturating_add-number.result (omega (arith, c.loop-number.invariant.counts))
    (step_told _ _ _ (Ok true) _ _ c.next.ensures.step (search rules)) _ _
    c.in_default.ensures.goes_on

pub returns-in-Ok-false-clause-report : goal.returns-in-Ok-false-clause-report
returns-in-Ok-false-clause-report g c =
    let new : Standing = record {
      stream = g.R.StepReader.stream c.next.new.self;
      to_come = g.R.StepReader.to_come c.next.new.self;
    } in
    Checking-end _ _ _ new _ _ _ _ _ c.loop-number.invariant None c.next.new.step
    c.without_step.result c.conclude-status.new.lines
    (step_told _ new _ (Ok false) _ _ c.next.ensures.step (search rules)) (search rules)
    (rw c.without_step.ensures (c.conclude-status.ensures.outcome end_line c.end_line.ensures))
    (TellsFault-none None None c.without_step.result (search rules) (λ m. grind arith))

pub returns-in-Err-clause-report : goal.returns-in-Err-clause-report
returns-in-Err-clause-report g c =
    let new : Standing = record {
      stream = g.R.StepReader.stream c.next.new.self;
      to_come = g.R.StepReader.to_come c.next.new.self;
    } in
    Checking-fault _ _ _ new _ _ _ _ _ c.loop-number.invariant _ c.next.new.step
    c.by_fault.result c.break_off-status.new.lines
    c.in-Err.fault c.in-Err.ensures.step (grind arith)
