-- What the lines hold is what the writer holds, and what that means for the bytes.
use Rattle.sat_check.proofs.{ModelLemmas.both_check_model, TheoremLemmas.lines_satisfied}
use Rattle.std.proofs.Common.{rules}
use Rattle.sat_check.proofs.model.run_model_placed.Goals as goal

pub returns-clause-runs : goal.returns-clause-runs
returns-clause-runs g c = record {
  checks = both_check_model _ _ _ _ c.check_model-checked.result _ _ _ _ (search rules)
      (search rules) c.check_model-checked.ensures.report;
  read_failed = search rules;
  write_failed = search rules;
  no_failure = search rules;
  flushed = search rules;
  gave_up = search rules;
}

pub returns-clause-satisfied : goal.returns-clause-satisfied
returns-clause-satisfied g c = lines_satisfied _ _ _ _ c.check_model-checked.result _ _ _ _
    (search rules) (search rules) c.check_model-checked.ensures.report
