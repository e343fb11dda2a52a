use Rattle.writers.proofs.LineLemmas.{Writes-longer, Writes-then}
use Rattle.writers.proofs.line_out.LineOut.line.Goals as goal

pub returns-in_err-write-clause-writes : goal.returns-in_err-write-clause-writes
returns-in_err-write-clause-writes g c = Writes-longer _ _ _ _ c.in_err-write.ensures.err.0 c.write-2.ensures.writes

pub returns-clause-writes : goal.returns-clause-writes
returns-clause-writes g c = Writes-then _ _ _ _ _ c.write-2.ensures.writes c.write-3.ensures.writes
