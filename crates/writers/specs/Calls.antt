-- What a writer of the standard library was asked: how often, modulo 2 ^ 64, with how long a piece
-- last, and what it answered last.
use Rattle.std.specs.Prelude.{ℕ, Bool, List, length, Option, None, Some, Result}
use Rattle.std.specs.declared.io.Error.{Error}
use Rattle.cnf_base.specs.Calls.{call_after}

-- the writes and the flushes of a writer
pub record Handed : Type 0 where
  pub writes : ℕ
  pub piece : ℕ
  pub write_answer : Option (Result ℕ Error)
  pub flushes : ℕ
  pub flush_answer : Option (Result (Unit {0}) Error)

-- none so far
abbrev pub none_handed : Handed
none_handed =
    record { writes = 0; piece = 0; write_answer = None; flushes = 0; flush_answer = None }

-- one more write, of this piece and with this answer
abbrev pub written_once : Handed → List ℕ → Result ℕ Error → Handed
written_once handed buf answer =
    record handed {
      writes = call_after handed.writes;
      piece = length buf;
      write_answer = Some answer;
    }

-- one more flush, with this answer
abbrev pub flushed_once : Handed → Result (Unit {0}) Error → Handed
flushed_once handed answer =
    record handed { flushes = call_after handed.flushes; flush_answer = Some answer }

-- a writer of the standard library: the bytes that it holds, where they are known, and its calls
pub record StdWriter : Type 0 where
  pub held : Option (List ℕ)
  pub handed : Handed

-- a writer over one of the standard library: the bytes that that holds, where they are known,
-- whether a call has failed, whether a flush has succeeded since the last write, and the calls of
-- the one below
pub record OverStdWriter : Type 0 where
  pub held : Option (List ℕ)
  pub has_failed : Bool
  pub is_flushed : Bool
  pub below : Handed
