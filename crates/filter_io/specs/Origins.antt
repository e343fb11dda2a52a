-- Where the bytes of an input come from.
use Rattle.std.specs.declared.io.Error.{Error}
use Rattle.std.specs.declared.io.ErrorKind.TheVariants.{OutOfMemory}
use Rattle.std.specs.IoError.{error_kind}
use Rattle.std.specs.Prelude.{◌≡◌, ◌-◌, ◌^◌, ℕ, List, Option, None, Result, Ok, Err}
use Rattle.cnf_base.specs.Stream.{Reader}
use Rattle.filter_io.specs.declared.origin.Origin.{Origin}
use Rattle.filter_io.specs.declared.origin.Origin.TheVariants.{File, Standard, Unopened}

-- what is known of the reader below
abbrev pub reader_of : {F S : Type 0} → Origin F S → Reader
reader_of (File r) = r.shown
reader_of (Standard r) = r.shown
reader_of (Unopened r) = r.shown

-- a reader of which nothing was read, with these bytes left, where they are known
abbrev pub unread : Option (List ℕ) → Reader
unread left = record { left = left; over = None; most_left = 2 ^ 64 - 1 }

-- what is left of what was opened: the bytes of a file, where they are known; of one that couldn't
-- be opened nothing is known
abbrev pub left_of : {F E : Type 0} → (F → Option (List ℕ)) → Result F E → Option (List ℕ)
left_of remaining (Ok file) = remaining file
left_of remaining (Err _) = None

-- it couldn't be opened since memory was refused
abbrev pub IsWantOfMemory : {F : Type 0} → Result F Error → Type 0
IsWantOfMemory (Ok file) = ⊥
IsWantOfMemory (Err reason) = error_kind reason ≡ OutOfMemory
