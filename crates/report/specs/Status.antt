-- The exit status of a program (our own profile).
use Rattle.std.specs.Prelude.{ℕ}
use Rattle.report.specs.declared.status.Status.{Status}
use Rattle.report.specs.declared.status.Status.TheVariants.{Verified, NotVerified, Malformed}
use Rattle.report.specs.declared.status.Status.TheVariants.{ReadFailed, OutOfMemory, WriteFailed}
use Rattle.report.specs.declared.status.Status.TheVariants.{Usage}

-- the number of a status, with which the program ends
abbrev pub code_of : Status → ℕ
code_of Verified = 0
code_of NotVerified = 1
code_of Malformed = 2
code_of ReadFailed = 3
code_of OutOfMemory = 4
code_of WriteFailed = 5
code_of Usage = 6
