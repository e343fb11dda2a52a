-- What all readers over a source have in common.
use Rattle.std.specs.Prelude.{◌≡◌, ℕ, ◌<◌, ◌≤◌, Bool, true, List, Option, None, Some, Result, Ok}
use Rattle.std.specs.Prelude.{Err}
use Rattle.cnf_base.specs.Stream.{Reader, Stream, most_to_come, tells_failure}
use Rattle.cnf_base.specs.declared.fault.Fault.{Fault}
use Rattle.cnf_base.specs.declared.fault.Fault.TheVariants.{ReadFailed}

-- each item takes a byte
abbrev pub Advances : Result Bool Fault → Stream → Stream → Type 0
Advances (Ok true) old new = most_to_come new < most_to_come old
Advances _ old new = most_to_come new ≤ most_to_come old

-- Of a failed read the reader below tells then, and after every other answer as before.
abbrev pub Tells : Fault → Reader → Reader → Type 0
Tells ReadFailed old new = tells_failure new ≡ true
Tells f old new = tells_failure new ≡ tells_failure old

-- the same of any answer of a reader
abbrev pub TellsOf : {A : Type 0} → Result A Fault → Reader → Reader → Type 0
TellsOf (Ok _) old new = tells_failure new ≡ tells_failure old
TellsOf (Err f) old new = Tells f old new

-- The answer that ends a reader is the one that it gives from then on.
abbrev pub Keeps : Result Bool Fault → Option (Result Bool Fault) → Type 0
Keeps (Ok true) kept = kept ≡ None
Keeps result kept = kept ≡ Some result

-- a run of the source ended here, and the reader was given back
pub record IsLeft (last : Stream) (given : Reader) (borrows : List ℕ) : Type 0 where
  pub reader : given ≡ last.reader
  pub same_reader : borrows ≡ last.borrows
