-- What a run saw of its reader.
use Rattle.cnf_base.proofs.StreamLemmas.{IsSilent-nothing, MayGive-read, some_input}
use Rattle.cnf_base.specs.{Seen.{IsSeen, Seen, SeenIsSome, SeenMayBeGiven}, Stream.{Along, Input}}
use Rattle.cnf_base.specs.Stream.{MayCome, MayFollow, Reader, Stream, Suffix, from_start, preceded}
use Rattle.cnf_base.specs.{Stream.unread_stream, declared.input.Ending.Ending}
use Rattle.std.proofs.Common.{List, None, Option, Some, [], append-nil, append_assoc, arith, refl}
use Rattle.std.proofs.{Common.{ℕ, ◌++◌, ◌≡◌}, KnownBytes.Consumes-nil}

-- nothing was read
pub Seen-nothing : (reader : Reader) → Seen reader reader
Seen-nothing reader = record {
  handed = [];
  met = None;
  lost = Consumes-nil reader.left;
  count = omega arith;
  ended = λ e. absurd (cc);
  told = refl;
  last = λ e h. absurd (cc);
  silent = IsSilent-nothing reader;
}

-- what follows what was taken, of an input that begins with what was handed out
rest_of : (met : Option Ending) (left : Option (List ℕ)) (ahead taken bytes : List ℕ) (i : Input)
    → bytes ≡ taken ++ ahead → MayFollow met left bytes i.bytes i.ending
    → (j : Input) × MayFollow met left ahead j.bytes j.ending × (i ≡ preceded taken j)
rest_of (Some e) left ahead taken bytes i is f =
    (record { bytes = ahead; ending = e }, (refl, refl), grind arith)
rest_of None left ahead taken bytes i is f = (
  record { bytes = ahead ++ f.0; ending = i.ending },
  (f.0, refl, f.2),
  grind (arith, append_assoc),
)

module _ (reader : Reader) (borrows : List ℕ) (last : Stream) (P : Suffix → Suffix → Type 0)
    (run : Along (unread_stream reader borrows) last P) where
  -- the bytes that were read were handed out
  pub Seen-run : Seen reader last.reader
  Seen-run = record {
    handed = run.bytes;
    met = last.met;
    lost = run.moves.lost;
    count = run.moves.count;
    ended = grind arith;
    told = grind arith;
    last = grind arith;
    silent = run.moves.silent;
  }

  -- and of each such input the run's fact holds
  pub Seen-fact : (i : Input) → IsSeen Seen-run i → (j : Suffix) × MayCome last j
      × P (from_start i) j
  unfolding Seen-run
  Seen-fact i f =
      let r = rest_of last.met last.reader.left last.ahead run.taken run.bytes i run.moves.whole
      f in
      grind (arith, run.fact 0 r.0 r.1)

-- ---- Laws

pub seen_may_be_given : SeenMayBeGiven
seen_may_be_given old new seen i is = grind (arith, MayGive-read, append-nil)

pub seen_is_some : SeenIsSome
seen_is_some old new seen = by seen.met
  where
    by : (met : Option Ending) → (i : Input) × MayFollow met new.left seen.handed i.bytes i.ending
    by (Some e) = (record { bytes = seen.handed; ending = e }, (refl, refl))
    by None = let i = some_input new.left in (preceded seen.handed i.0, (i.0.bytes, refl, i.1))
