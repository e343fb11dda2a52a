-- Whole inputs, and what is known of an input while it is read.
use Rattle.std.specs.Io.KnownBytes.{IsAtEnd, Consumes}
use Rattle.std.specs.Prelude.{ℕ, List, Option, Bool, true, false, None, Some, ◌≡◌, [], ◌-◌, ◌++◌}
use Rattle.std.specs.Prelude.{◌<◌, length, slice_index, Result, Ok, Err, ◌+◌, ◌^◌, min, ◌==◌}
use Rattle.std.specs.Prelude.{if◌then◌else◌, drop, ◌≤◌}
use Rattle.cnf_base.specs.declared.input.Ending.TheVariants.{End, Failed}
use Rattle.cnf_base.specs.declared.input.Ending.{Ending}
use Rattle.cnf_base.specs.declared.input.ReadFailed.{ReadFailed}
use Rattle.cnf_base.specs.declared.place.Place.{Place}

-- an input: its bytes, and how it ends
pub record Input : Type 0 where
  pub bytes : List ℕ
  pub ending : Ending

-- what an input has from a byte on: the offset of that byte, which is how many bytes come before
-- it, the bytes from there on, and how the input ends
pub record Suffix : Type 0 where
  pub offset : ℕ
  pub bytes : List ℕ
  pub ending : Ending

-- a suffix of an input, by its parts
abbrev pub suffix : ℕ → List ℕ → Ending → Suffix
suffix offset bytes ending = record { offset = offset; bytes = bytes; ending = ending }

-- an input, where so many bytes came before
abbrev pub from_offset : ℕ → Input → Suffix
from_offset offset i = suffix offset i.bytes i.ending

-- a whole input
abbrev pub from_start : Input → Suffix
from_start i = record { offset = 0; bytes = i.bytes; ending = i.ending }

-- a reader: the bytes that it has left, where they are known, its end or its failure, where it has
-- given that, and how many bytes may still be read of it at most
pub record Reader : Type 0 where
  pub left : Option (List ℕ)
  pub over : Option Ending
  pub most_left : ℕ

-- it is a failed read that was given
abbrev pub is_failure : Option Ending → Bool
is_failure (Some Failed) = true
is_failure _ = false

-- a read of the reader has failed
abbrev pub tells_failure : Reader → Bool
tells_failure reader = is_failure reader.over

-- A reader that is over stays as it is, and hands out nothing.
abbrev pub IsSilent : Reader → Reader → List ℕ → Type 0
IsSilent old new bytes = (e : Ending) → old.over ≡ Some e → (bytes ≡ []) × (new ≡ old)

-- how many bytes were read of a reader
abbrev pub bytes_read : Reader → Reader → ℕ
bytes_read old new = old.most_left - new.most_left

-- a source: the bytes that were read and not yet taken, the end where it was met, its reader, by
-- which borrows that is known again, and where the next byte is
pub record Stream : Type 0 where
  pub ahead : List ℕ
  pub met : Option Ending
  pub reader : Reader
  pub borrows : List ℕ
  pub place : Place
  pub byte_no : ℕ

-- An input that a reader with these bytes left may give: the bytes and their end, or a beginning of
-- them and a failure. Where the bytes aren't known, any.
abbrev pub MayGive : Option (List ℕ) → List ℕ → Ending → Type 0
MayGive None bytes ending = Unit {0}
MayGive (Some all) bytes End = bytes ≡ all
MayGive (Some all) bytes Failed = (rest : List ℕ) × (all ≡ bytes ++ rest)

-- after these bytes
abbrev pub MayFollow : Option Ending → Option (List ℕ) → List ℕ → List ℕ → Ending → Type 0
MayFollow (Some met) left ahead bytes ending = (bytes ≡ ahead) × (ending ≡ met)
MayFollow None left ahead bytes ending =
    (later : List ℕ) × (bytes ≡ ahead ++ later) × MayGive left later ending

-- what a source may still give of an input
abbrev pub MayCome : Stream → Suffix → Type 0
MayCome s i = MayFollow s.met s.reader.left s.ahead i.bytes i.ending

-- what a source shows of its next byte
abbrev pub Shows : Result (Option ℕ) ReadFailed → Stream → Type 0
Shows (Ok (Some b)) s = (0 < length s.ahead) × (b ≡ slice_index s.ahead 0)
Shows (Ok None) s = (s.ahead ≡ []) × (s.met ≡ Some End)
Shows (Err _) s = (s.ahead ≡ []) × (s.met ≡ Some Failed)

-- so many more, up to the greatest number
abbrev pub more_count : ℕ → ℕ → ℕ
more_count n more = min (n + more) (2 ^ 64 - 1)

-- one more, up to the greatest number
abbrev pub next_count : ℕ → ℕ
next_count n = min (n + 1) (2 ^ 64 - 1)

-- the place after a byte
abbrev pub place_after : ℕ → Place → Place
place_after b p =
    if b == 10 then record { line = next_count p.line; col = 1 }
    else record { line = p.line; col = next_count p.col }

-- the source with its next byte taken
abbrev pub bumped : Stream → Stream
bumped s =
    record s {
      ahead = drop 1 s.ahead;
      place = place_after (slice_index s.ahead 0) s.place;
      byte_no = next_count s.byte_no;
    }

-- the source with so many bytes taken, as if all were of one line
abbrev pub skipped : ℕ → Stream → Stream
skipped n s = record s {
  ahead = drop n s.ahead;
  place = record { line = s.place.line; col = more_count s.place.col n };
  byte_no = more_count s.byte_no n;
}

-- a source of which nothing was read
abbrev pub unread_stream : Reader → List ℕ → Stream
unread_stream reader borrows =
    record {
      ahead = [];
      met = None;
      reader = reader;
      borrows = borrows;
      place = record { line = 1; col = 1 };
      byte_no = 1;
    }

-- so many bytes may still be taken at most
abbrev pub most_to_come : Stream → ℕ
most_to_come s = length s.ahead + s.reader.most_left

-- the bytes, and then the input
abbrev pub preceded : List ℕ → Input → Input
preceded bytes i = record { bytes = bytes ++ i.bytes; ending = i.ending }

-- Once an end was met it stays, and nothing more is read. One that is met now is what the reader
-- gave; where none is, the reader has given none either.
abbrev pub Meets : Option Ending → Option Ending → List ℕ → Reader → Reader → Type 0
Meets (Some e) met bytes old new = (met ≡ Some e) × (bytes ≡ []) × (new ≡ old)
Meets None None bytes old new = new.over ≡ old.over
Meets None (Some End) bytes old new =
    IsAtEnd new.left × (new.over ≡ Some End) × (tells_failure new ≡ tells_failure old)
Meets None (Some Failed) bytes old new = new.over ≡ Some Failed

-- From the first state to the second a source read the one bytes and gave the others: what was
-- ahead, and then what was read, is what was taken and what is ahead now. The reader lost what was
-- read, and so many bytes less may still be read of it. No more than 65536 bytes are read ahead.
pub record Moves (old new : Stream) (bytes taken : List ℕ) : Type 0 where
  pub whole : old.ahead ++ bytes ≡ taken ++ new.ahead
  pub lost : Consumes old.reader.left new.reader.left bytes
  pub count : new.reader.most_left + length bytes ≡ old.reader.most_left
  pub met : Meets old.met new.met bytes old.reader new.reader
  pub silent : IsSilent old.reader new.reader bytes
  pub ahead : length old.ahead ≤ 65536 → length new.ahead ≤ 65536
  pub same_reader : new.borrows ≡ old.borrows

-- A run of a source from the first state to the second took some bytes. Of all that may come after
-- it, and of that with these bytes in front, which might come before it, the fact holds, at
-- whatever offset the run began.
pub record Along (old new : Stream) (P : Suffix → Suffix → Type 0) : Type 0 where
  pub bytes : List ℕ
  pub taken : List ℕ
  pub moves : Moves old new bytes taken
  pub fact : (offset : ℕ) (rest : Input) → MayCome new (from_offset (offset + length taken) rest)
      → P (from_offset offset (preceded taken rest)) (from_offset (offset + length taken) rest)

-- a look at the next byte may read, and takes nothing
pub record IsLook (old new : Stream) : Type 0 where
  pub bytes : List ℕ
  pub moves : Moves old new bytes []
  pub place : new.place ≡ old.place
  pub byte_no : new.byte_no ≡ old.byte_no
