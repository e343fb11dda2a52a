-- What was seen of the formula.
use Rattle.sat_check.proofs.FormulaLemmas.{loads_body, loads_body_fault, loads_fault, loads_refused}
use Rattle.{std.proofs.Common.{arith, refl, rules}, theory.specs.Rules.rule_of}
use Rattle.sat_check.proofs.load.load.Goals as goal

pub returns-in_err-piece-clause-loads : goal.returns-in_err-piece-clause-loads
returns-in_err-piece-clause-loads g c = loads_refused _ _ _ _ _ refl (search rules)

pub returns-in_ok-loaded-in-Ok-clause-loads : goal.returns-in_ok-loaded-in-Ok-clause-loads
returns-in_ok-loaded-in-Ok-clause-loads g c =
    loads_body (rule_of (g.S.ProofSession.shown c.args.session.now).state) _ _ _ _ c.over.ensures _
    _ (search rules) c.in-Ok.reader c.in-Ok.ensures.opened c.header-header.result (search rules)
    c.in_ok-loaded-in-Ok.ensures.loads

pub returns-in_err-loaded-in-Ok-clause-loads : goal.returns-in_err-loaded-in-Ok-clause-loads
returns-in_err-loaded-in-Ok-clause-loads g c =
    loads_body_fault (rule_of (g.S.ProofSession.shown c.args.session.now).state) _ _ _ _
    c.over.ensures _ _ (search rules) c.in-Ok.reader c.in-Ok.ensures.opened
    c.in_err-loaded-in-Ok.field-0.0 c.from_residual-in_err-loaded-in-Ok.result (search rules)
    c.in_err-loaded-in-Ok.ensures.loads

pub returns-in-Err-clause-loads : goal.returns-in-Err-clause-loads
returns-in-Err-clause-loads g c = let last = c.in-Err.ensures.refused in
    loads_fault (grind arith) (g.S.ProofSession.shown c.args.session.now) _ _ _ c.over.ensures
    last.0 _ (search rules) c.in-Err.refused.0 last.2
