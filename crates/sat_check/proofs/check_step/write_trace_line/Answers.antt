use Rattle.{sat_check.proofs.OutcomeLemmas.{Writes-line, on_ok}, std.proofs.Common.rules}
use Rattle.sat_check.proofs.check_step.write_trace_line.Goals as goal

pub returns : goal.returns
returns g c = record {
  wrote = search (rules, on_ok, Writes-line);
  whole = search rules;
  stopped = search rules;
  no_failure = search rules;
  broke = search rules;
  cut_short = c.write_line.ensures.cut_short;
  gave_up = c.write_line.ensures.gave_up;
  same_writer = c.write_line.ensures.same_writer;
}
