use Rattle.std.proofs.Common.{Ok, arith, map, nat_abs, rules}
use Rattle.theory.specs.{declared.accepted.Accepted.TheVariants.Deleted, Lrat.LratState}
use Rattle.{live_clauses.specs.LiveClauses.lrat_state, steps.proofs.StateLemmas.keeps_taken}
use Rattle.{steps.specs.Code.Naming.with_lits, theory.specs.Rules.by_ids}
use Rattle.{theory.proofs.LratLemmas.LiveSets.SameClauses-eq, steps.proofs.LratLemmas.ready_without}
use Rattle.steps.proofs.lrat.LratJudgeJudge.step.Goals as goal
use Rattle.std.specs.FinMap as maps

pub returns-in-None-clause-state : goal.returns-in-None-clause-state
returns-in-None-clause-state c = grind (arith, SameClauses-eq)

pub returns-in-None-clause-ready : goal.returns-in-None-clause-ready
returns-in-None-clause-ready c =
    ready_without _ _ _ (map nat_abs c.hints.result.now) c.in-None.ensures.live c.requires

pub returns-in-Add-clause-keeps_models : goal.returns-in-Add-clause-keeps_models
returns-in-Add-clause-keeps_models c =
    keeps_taken (by_ids (lrat_state c.args.self.now.held))
    (by_ids (lrat_state c.take_addition.new.held)) _ _ c.take_addition.ensures.answers
    (search rules)

pub returns-in-None-clause-keeps_models : goal.returns-in-None-clause-keeps_models
returns-in-None-clause-keeps_models c =
    let now = c.delete_all.new.live.live in
    let new : LratState = record { live = maps.get now; top = c.delete_all.new.live.top } in
    keeps_taken (by_ids (lrat_state c.args.self.now.held)) (by_ids new)
    (with_lits c.args.lits.now c.args.step.now) (Ok Deleted) (search rules)
    (returns-in-None-clause-state c)
