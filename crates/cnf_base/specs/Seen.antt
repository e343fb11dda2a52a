-- What a run saw of a reader: the bytes that it handed out, and its end or its failure. To say that
-- the reader might have given some input would show nothing of a run: it may always fail at once.
use Rattle.std.specs.Io.KnownBytes.{Consumes, IsAtEnd}
use Rattle.std.specs.Prelude.{◌≡◌, ℕ, ◌+◌, ◌||◌, List, length, Option, Some, ◌⊎◌, true}
use Rattle.cnf_base.specs.Stream.{Reader, IsSilent, is_failure, tells_failure, Input, MayFollow}
use Rattle.cnf_base.specs.Stream.{MayGive}
use Rattle.cnf_base.specs.declared.input.Ending.TheVariants.{End}
use Rattle.cnf_base.specs.declared.input.Ending.{Ending}

-- All bytes that the reader handed out in a run, and the input's end where it was met. The bytes
-- are those that the reader lost, and so many less may still be read of it, also where they aren't
-- known. The end was met only where the reader is at its end; a failed read was met exactly where
-- the reader tells of one that is new. What was met is what the reader gave last, and of a reader
-- that was over nothing was handed out.
pub record Seen (old new : Reader) : Type 0 where
  pub handed : List ℕ
  pub met : Option Ending
  pub lost : Consumes old.left new.left handed
  pub count : new.most_left + length handed ≡ old.most_left
  pub ended : met ≡ Some End → IsAtEnd new.left
  pub told : tells_failure new ≡ (is_failure met || tells_failure old)
  pub last : (e : Ending) → met ≡ Some e → new.over ≡ Some e
  pub silent : IsSilent old new handed

-- An input that the reader may have given, by what the run saw: it begins with the bytes that were
-- handed out, and goes on in any way that the reader still may; where the end was met it is those
-- bytes and that end.
abbrev pub IsSeen : {old new : Reader} → Seen old new → Input → Type 0
IsSeen {old} {new} seen i = MayFollow seen.met new.left seen.handed i.bytes i.ending

-- The same of two readers: the fact is of one and the same pair of inputs.
pub record OfBothSeen (old new also_old also_new : Reader) (Fact : Input → Input → Type 0)
    : Type 0 where
  pub first : Seen old new
  pub second : Seen also_old also_new
  pub fact : (i j : Input) → IsSeen first i → IsSeen second j → Fact i j

-- a read of one of them has failed
abbrev pub OneHasFailed : Reader → Reader → Type 0
OneHasFailed first second = (tells_failure first ≡ true) ⊎ (tells_failure second ≡ true)

-- ---- Laws

-- What was seen may have been given: an input that a run's bytes may be is one that the reader
-- might give before it.
abbrev pub SeenMayBeGiven : Type 0
SeenMayBeGiven =
    (old new : Reader) (seen : Seen old new) (i : Input) → IsSeen seen i →
    MayGive old.left i.bytes i.ending

-- Whatever was seen, there is such an input.
abbrev pub SeenIsSome : Type 0
SeenIsSome = (old new : Reader) (seen : Seen old new) → (i : Input) × IsSeen seen i
