-- The formula is checked, or the output has a fault.
use Rattle.{cnf_base.proofs.SeenLemmas.Seen-nothing, sat_check.proofs.ModelLemmas.model_made}
use Rattle.{sat_check.proofs.ModelLemmas.output_fault, std.proofs.Common.arith}
use Rattle.sat_check.proofs.model.check_model.Goals as goal

pub returns-in-Ok-clause-report : goal.returns-in-Ok-clause-report
returns-in-Ok-clause-report g c = let checked = c.check_formula.ensures.report in record {
  first = checked.seen;
  second = c.in-Ok.ensures.claims.seen;
  fact = λ i j s t. let x = checked.fact i s in model_made c.in-Ok.model i j _ _ c.args.lines.now
      c.check_formula.new.lines _ (c.in-Ok.ensures.claims.fact j t) (grind arith) x.0 x.1 x.2 x.3
      x.4;
}

pub returns-in-Err-clause-report : goal.returns-in-Err-clause-report
returns-in-Err-clause-report g c = record {
  first = Seen-nothing _;
  second = c.in-Err.ensures.claims.seen;
  fact = λ i j s t. output_fault i j _ c.in-Err.fault c.args.lines.now c.break_off-status.new.lines
      c.by_fault.result (c.in-Err.ensures.claims.fact j t) (grind arith);
}
