-- A clause is input, until the last one or a fault.
use Rattle.sat_check.proofs.FormulaLemmas.{Loading-clause, Loading-done, Loading-fault}
use Rattle.sat_check.proofs.FormulaLemmas.{Loading-refused, clause_told, loaded_more}
use Rattle.std.{proofs.Common.arith, proofs.Common.false, proofs.Common.rules, specs.Prelude.Ok}
use Rattle.sat_check.proofs.load.load_clauses.Goals as goal

pub returns-then-is_err-clause-loads : goal.returns-then-is_err-clause-loads
returns-then-is_err-clause-loads g c =
    Loading-refused _ _ _ c.next.new.self _ c.loop-clause.invariant
    (g.S.ProofSession.shown c.input.new.self) c.next.new.clause (grind (arith, clause_told))

pub loop-clause-preserved : goal.loop-clause-preserved
loop-clause-preserved g c = Loading-clause _ _ _ c.next.new.self _ c.loop-clause.invariant _
    c.next.new.clause (grind (arith, clause_told)) (loaded_more _ _ _ _ _
    c.loop-clause.invariant.loaded (search rules) (search rules) (search rules) (search rules)
    (search rules) (search rules) (search rules)) (search rules) (search rules)

pub returns-clause-loads : goal.returns-clause-loads
returns-clause-loads g c = let session = g.S.ProofSession.shown c.loop-clause.session in
    Loading-done _ _ _ c.next.new.self _ c.loop-clause.invariant session c.next.new.clause (clause_told
    c.loop-clause.reader c.next.new.self _ (Ok false) _ c.next.ensures.clause (search rules))

pub returns-in_err-next-clause-loads : goal.returns-in_err-next-clause-loads
returns-in_err-next-clause-loads g c = let session = g.S.ProofSession.shown c.loop-clause.session in
    Loading-fault _ _ _ c.next.new.self _ c.loop-clause.invariant session c.next.new.clause
    c.in_err-next.field-0.0 c.from_residual.result (search rules) c.in_err-next.ensures.clause
