-- What a run leaves of the writer of its lines.
use Rattle.std.specs.Prelude.{◌≡◌, ◌⊎◌, Bool, true, false}
use Rattle.writers.specs.Lines.{Sink}
use Rattle.sat_check.specs.Report.{is_cut_short}
use Rattle.report.specs.declared.status.Status.{Status}
use Rattle.report.specs.declared.status.Status.TheVariants.{OutOfMemory}

-- all was flushed, or the writer tells of a failure
abbrev pub IsFlushedOrFailed : (is_flushed has_failed : Bool) → Type 0
IsFlushedOrFailed is_flushed has_failed = (is_flushed ≡ true) ⊎ (has_failed ≡ true)

-- Unless memory or the writer failed, the writer tells of no new failure, and all was flushed. Where
-- memory ran out, all was flushed, or the writer tells of a failure. It is the same writer.
pub record LeavesWriter (status : Status) (old new : Sink) : Type 0 where
  pub no_failure : is_cut_short status ≡ false → new.has_failed ≡ old.has_failed
  pub flushed : is_cut_short status ≡ false → new.is_flushed ≡ true
  pub gave_up : status ≡ OutOfMemory → IsFlushedOrFailed new.is_flushed new.has_failed
  pub same_writer : new.borrows ≡ old.borrows
