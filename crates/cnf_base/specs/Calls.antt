-- What a reader of the standard library was asked: how often, modulo 2 ^ 64, with how long a buffer
-- last, and what it answered last. `std::io::Read` promises nothing of a call after an end or an
-- error, so each call is counted.
use Rattle.std.specs.IoError.{error_kind}
use Rattle.std.specs.Prelude.{ℕ, zero, suc, ◌+◌, ◌%◌, ◌^◌, nat_le, ◌&&◌, if◌then◌else◌, Bool}
use Rattle.std.specs.Prelude.{List, [], ◌∷◌, length, Option, None, Some, is_none, Result, Ok, Err}
use Rattle.std.specs.Prelude.{◌≡◌}
use Rattle.std.specs.declared.io.Error.{Error}
use Rattle.std.specs.declared.io.ErrorKind.TheVariants.{FileTooLarge}
use Rattle.cnf_base.specs.Stream.{Reader}

-- one call more
abbrev pub call_after : ℕ → ℕ
call_after calls = (calls + 1) % 2 ^ 64

-- the reads of a reader
pub record Reads : Type 0 where
  pub calls : ℕ
  pub room : ℕ
  pub answer : Option (Result ℕ Error)

-- none so far
abbrev pub no_reads : Reads
no_reads = record { calls = 0; room = 0; answer = None }

-- one more, into this buffer and with this answer
abbrev pub read_once : Reads → List ℕ → Result ℕ Error → Reads
read_once reads buf answer =
    record { calls = call_after reads.calls; room = length buf; answer = Some answer }

-- a reader of the standard library: the bytes that it has left, where they are known, and its reads
pub record StdReader : Type 0 where
  pub left : Option (List ℕ)
  pub reads : Reads

-- a reader over one of the standard library: what it shows, the answer that it gives from now on,
-- where it has one, and the reads of the one below
pub record OverStdReader : Type 0 where
  pub shown : Reader
  pub last : Option (Result ℕ Error)
  pub below : Reads

-- the first answer that is an error, or no byte for a buffer that isn't empty, stays
abbrev pub last_after : Option (Result ℕ Error) → List ℕ → Result ℕ Error → Option (Result ℕ Error)
last_after (Some last) buf result = Some last
last_after None buf (Err e) = Some (Err e)
last_after None [] (Ok n) = None
last_after None (b ∷ bs) (Ok zero) = Some (Ok 0)
last_after None (b ∷ bs) (Ok (suc n)) = None

-- the error that a reader gives from now on
abbrev pub last_error : Option (Result ℕ Error) → Option Error
last_error None = None
last_error (Some (Ok _)) = None
last_error (Some (Err e)) = Some e

-- whether the one below is asked: not where the reader is over, nor where a read might go past the
-- greatest number of bytes
abbrev pub asks : Reader → List ℕ → Bool
asks reader buf = is_none reader.over && nat_le (length buf) reader.most_left

-- it is asked once, for the same buffer, and what it answers is the answer
abbrev pub below_after : OverStdReader → List ℕ → Result ℕ Error → Reads
below_after r buf result = if asks r.shown buf then read_once r.below buf result else r.below

-- the answer is an error, that of a read that might go past the greatest number of bytes
abbrev pub IsTooLarge : Result ℕ Error → Type 0
IsTooLarge (Ok _) = ⊥
IsTooLarge (Err e) = error_kind e ≡ FileTooLarge
