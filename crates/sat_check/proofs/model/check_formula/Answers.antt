-- The formula was judged, or it has a fault.
use Rattle.{dimacs.specs.Formula.formula_of, sat_check.proofs.CheckLemmas.TellsFault-none}
use Rattle.sat_check.proofs.ModelLemmas.{formula_fault, judged_as, judged_unmet}
use Rattle.std.proofs.Common.{arith}
use Rattle.sat_check.proofs.model.check_formula.Goals as goal

pub returns-in-Ok-clause-report : goal.returns-in-Ok-clause-report
returns-in-Ok-clause-report g c = let judges = c.in-Ok.ensures.judges in record {
  seen = judges.seen;
  fact = λ i s. let x = judges.fact i s in (
    grind (arith, judged_as),
    x.1,
    grind (arith, TellsFault-none),
    (λ _. grind (arith, judged_unmet)),
    x.2,
  );
}

pub returns-in-Err-clause-report : goal.returns-in-Err-clause-report
returns-in-Err-clause-report g c = let judges = c.in-Err.ensures.judges in record {
  seen = judges.seen;
  fact = λ i s. let x = judges.fact i s in let told = formula_fault c.args.model.now
      (formula_of i) c.in-Err.fault c.args.lines.now c.break_off-status.new.lines
      c.by_fault.result x.0 (grind arith) in (told.0, x.1, told.1, grind arith, x.2);
}
