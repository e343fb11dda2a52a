-- The bytes so far were written.
use Rattle.std.{proofs.Common.{length, take, ◌-◌, ◌≡◌, ◌≤◌}, specs.Io.KnownBytes.Appends}
use Rattle.writers.proofs.line_out.write_whole.Given as goal

abbrev pub invariant-loop-at : goal.invariant-loop-at
invariant-loop-at g l =
    record {
      within : l.at ≤ length l.bytes;
      part : Appends (g.W.Out.held l.fn.writer) (g.W.Out.held l.writer) (take l.at l.bytes);
      mark : g.W.Out.has_failed l.writer ≡ g.W.Out.has_failed l.fn.writer;
      same_writer : g.W.Out.borrows l.writer ≡ g.W.Out.borrows l.fn.writer;
    }

abbrev pub decreases-loop-at : goal.decreases-loop-at
decreases-loop-at g l = length l.bytes - l.at
