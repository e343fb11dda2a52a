use Rattle.{std.proofs.Common.rules, writers.proofs.LineLemmas.Writes-whole}
use Rattle.writers.proofs.line_out.LineOut.write.Goals as goal

pub returns-clause-writes : goal.returns-clause-writes
returns-clause-writes g c =
    rw (← c.self.view_is) (Writes-whole _ _ _ c.if-self.false (c.write_whole.ensures.whole (search rules)) c.write_whole.ensures.same_writer)
