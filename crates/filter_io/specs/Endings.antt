-- The status of a run of a program (our own profile).
use Rattle.std.specs.Prelude.{Result, Ok, Err}
use Rattle.command_line.specs.declared.args.ArgsFault.{ArgsFault}
use Rattle.command_line.specs.declared.args.ArgsFault.TheVariants as fault
use Rattle.report.specs.declared.status.Status.{Status}
use Rattle.report.specs.declared.status.Status.TheVariants as status
use Rattle.filter_io.specs.declared.run.Ended.{Ended}

-- that of its check, or why there was none: the words ask for none, or memory ran out
abbrev pub status_of : {S F T : Type 0} → Result (Ended S F T) ArgsFault → Status
status_of (Ok ended) = ended.checked.status
status_of (Err (fault.Words text)) = status.Usage
status_of (Err fault.OutOfMemory) = status.OutOfMemory
