-- What may still come of an input, from one moment to the next.
use Rattle.cnf_base.specs.Stream.{Along, Input, IsLook, IsSilent, MayCome, MayFollow, MayGive}
use Rattle.cnf_base.specs.Stream.{Meets, Moves, Reader, Stream, Suffix, bumped, bytes_read}
use Rattle.cnf_base.specs.Stream.{from_offset, most_to_come, preceded, skipped, suffix}
use Rattle.{cnf_base.specs.declared.input.Ending.{Ending, TheVariants.End}, std.proofs.Common.List}
use Rattle.std.proofs.Common.{None, Option, Some, [], ap, append-nil, append_assoc, arith, drop}
use Rattle.std.proofs.Common.{drop-drop, length, length-append, length-drop, refl, rules}
use Rattle.std.proofs.Common.{slice_index, slice_range, suc, take, take-append-drop, ℕ, ◌++◌, ◌+◌}
use Rattle.std.proofs.{Common.{◌-◌, ◌<◌, ◌∷◌, ◌≡◌, ◌≤◌}, KnownBytes.{Consumes-kept, Consumes-nil}}
use Rattle.std.{proofs.lemmas.{Grind.common_steps, List.drop-take}, specs.Io.KnownBytes.Consumes}
use Rattle.std.specs.Io.KnownBytes.{Keeps}

-- what may be given after these bytes were read may be given with them in front
pub MayGive-read : (left left' : Option (List ℕ)) (read later : List ℕ) (ending : Ending)
    → Consumes left left' read → MayGive left' later ending → MayGive left (read ++ later) ending
MayGive-read left left' read later ending c m = grind (arith, append_assoc)

-- past the first bytes of what is ahead
pub slice_range-skipped : (at end n : ℕ) (piece : List ℕ) → n ≤ end - at
    → slice_range piece (at + n) end ≡ drop n (slice_range piece at end)
slice_range-skipped at end n piece most =
    grind (arith, drop-drop n at piece, drop-take n (end - (at + n)) (drop at piece))

-- a piece of which nothing is ahead is used up
pub used_up : (at end : ℕ) (piece : List ℕ) → at ≤ end → end ≤ length piece
    → slice_range piece at end ≡ [] → at ≡ end
used_up at end piece ordered within nothing = grind (arith, common_steps)

-- of a source that is used up nothing is ahead, whatever its piece
pub still_nothing : (at end : ℕ) (piece other : List ℕ) → at ≤ end → end ≤ length piece
    → slice_range piece at end ≡ [] → slice_range other at end ≡ []
still_nothing at end piece other ordered within nothing = grind (arith, common_steps, used_up)

-- ---- What was read and taken

pub IsSilent-nothing : (reader : Reader) → IsSilent reader reader []
IsSilent-nothing reader e over = (refl, refl)

pub Moves-nothing : (s : Stream) → Moves s s [] []
Moves-nothing s = grind (arith, append-nil)

pub IsLook-still : (s : Stream) → IsLook s s
IsLook-still s = grind (arith, Moves-nothing)

pub ruleset looked = (IsLook-still)

pub Moves-then : (a b c : Stream) (first second taken others : List ℕ) → Moves a b first taken
    → Moves b c second others → Moves a c (first ++ second) (taken ++ others)
Moves-then a b c first second taken others p q = grind (arith, append_assoc, length-append)

-- So many bytes less may still be taken.
pub most_to_come-moved : (old new : Stream) (bytes taken : List ℕ) → Moves old new bytes taken
    → most_to_come new + length taken ≡ most_to_come old
most_to_come-moved old new bytes taken m =
    grind (arith, length-append old.ahead bytes, length-append taken new.ahead)

-- ---- What may come

-- what may come after a run, with the bytes that it took in front, might come before it
pub MayCome-before : (old new : Stream) (bytes taken : List ℕ) → Moves old new bytes taken
    → (n k : ℕ) (j : Input) → MayCome new (from_offset k j)
    → MayCome old (from_offset n (preceded taken j))
MayCome-before old new bytes taken m n k j f = grind (arith, append_assoc, MayGive-read, append-nil)

-- ---- Two parts of what comes

-- the first is these bytes, and then the second
pub record Splits (first : Suffix) (taken : List ℕ) (second : Suffix) : Type 0 where
  pub bytes : first.bytes ≡ taken ++ second.bytes
  pub ending : first.ending ≡ second.ending
  pub offset : second.offset ≡ first.offset + length taken

-- the first part, and the second one, told by the other
pub Splits-first : (i : Suffix) (taken : List ℕ) (j : Suffix) → Splits i taken j
    → i ≡ suffix i.offset (taken ++ j.bytes) j.ending
Splits-first i taken j s = grind arith

pub Splits-second : (i : Suffix) (taken : List ℕ) (j : Suffix) → Splits i taken j
    → suffix (i.offset + length taken) j.bytes j.ending ≡ j
Splits-second i taken j s = grind arith

-- where it is one byte
pub Splits-byte : (i : Suffix) (b : ℕ) (j : Suffix) → Splits i (b ∷ []) j
    → suffix (suc i.offset) j.bytes j.ending ≡ j
Splits-byte i b j s = grind arith

pub Splits-then : (i : Suffix) (taken : List ℕ) (j : Suffix) (others : List ℕ) (k : Suffix)
    → Splits i taken j → Splits j others k → Splits i (taken ++ others) k
Splits-then i taken j others k p q = grind (arith, append_assoc, length-append)

-- nothing was taken
pub Along-look : (old new : Stream) → IsLook old new → Along old new (λ i j. i ≡ j)
Along-look old new look = grind arith

pub most_to_come-look : (old new : Stream) → IsLook old new → most_to_come new ≡ most_to_come old
most_to_come-look old new look = search (rules, most_to_come-moved)

-- the same run, with another fact
pub Along-map : (old new : Stream) (P Q : Suffix → Suffix → Type 0) → Along old new P
    → ((i j : Suffix) → MayCome new j → P i j → Q i j) → Along old new Q
Along-map old new P Q run next = grind arith

-- one run after another
pub Along-then : (a b c : Stream) (P Q R : Suffix → Suffix → Type 0) → Along a b P → Along b c Q
    → ((i j k : Suffix) → MayCome c k → P i j → Q j k → R i k) → Along a c R
Along-then a b c P Q R first second joined = record {
  bytes = first.bytes ++ second.bytes;
  taken = first.taken ++ second.taken;
  moves = search (rules, Moves-then);
  fact = λ n k m.
      let at : ℕ = n + length first.taken in let j : Input = preceded second.taken k in
      let later = MayCome-before b c _ _ second.moves at (at + length second.taken) k m in
      let both = joined (from_offset n (preceded first.taken j)) (from_offset at j) (from_offset
      (at + length second.taken) k) m (first.fact n j later) (second.fact at k m) in
      grind (arith, append_assoc first.taken second.taken k.bytes, length-append);
}

-- A run that began with no more than 65536 bytes ahead has read no more than so many past what it
-- took.
pub Along-within : (old new : Stream) (P : Suffix → Suffix → Type 0) → length old.ahead ≤ 65536
    → Along old new P → Along old new
    (λ i j. P i j × (bytes_read old.reader new.reader + i.offset ≤ j.offset + 65536))
Along-within old new P few run =
    let read = length-append old.ahead run.bytes in let given = length-append run.taken new.ahead in
    record {
      bytes = run.bytes;
      taken = run.taken;
      moves = run.moves;
      fact = λ n j m. (run.fact n j m, grind arith);
    }

-- a run of no call at all
pub Along-none : (s : Stream) → Along s s (λ i j. i ≡ j)
Along-none s = record { bytes = []; taken = []; moves = Moves-nothing s; fact = grind arith }

-- what is made of an input stays where nothing is taken
pub Along-still : {A : Type 0} (s : Stream) (f : Suffix → A) → Along s s (λ i j. f i ≡ f j)
Along-still s f = Along-map s s _ _ (Along-none s) (λ i j m e. ap f e)

-- ---- A look, and a byte that is taken

-- nothing was ahead, and a read gave these bytes, or it was the end's
pub look_filled : (old new : Stream) (bytes : List ℕ) → old.ahead ≡ [] → new.ahead ≡ bytes
    → Consumes old.reader.left new.reader.left bytes
    → new.reader.most_left + length bytes ≡ old.reader.most_left → length bytes ≤ 65536
    → Meets old.met new.met bytes old.reader new.reader → IsSilent old.reader new.reader bytes
    → new.borrows ≡ old.borrows → new.place ≡ old.place → new.byte_no ≡ old.byte_no → IsLook old new
look_filled old new bytes none ahead lost count most met silent same place byte_no = grind arith

-- nothing was ahead, and a read failed
pub Consumes-failed : (left new : Option (List ℕ)) → Keeps left new → Consumes left new []
Consumes-failed left new kept = Consumes-kept left left new [] (Consumes-nil left) kept

-- the byte that was shown is the input's first
pub shown_byte : (s : Stream) (b : ℕ) (j : Suffix) → 0 < length s.ahead → b ≡ slice_index s.ahead 0
    → MayCome s j → (rest : List ℕ) × (j ≡ suffix j.offset (b ∷ rest) j.ending)
shown_byte s b j some first m =
    elim s.met as (λ met. MayFollow met s.reader.left s.ahead j.bytes j.ending
    → (rest : List ℕ) × (j ≡ suffix j.offset (b ∷ rest) j.ending)) [
      | Some e ↦ λ m. (drop 1 s.ahead, grind arith)
      | None ↦ λ m. (drop 1 s.ahead ++ m.0, grind arith)
    ] m

-- the end that was shown is the input's
pub shown_end : (s : Stream) (e : Ending) (j : Suffix) → s.ahead ≡ [] → s.met ≡ Some e → MayCome s j
    → j ≡ suffix j.offset [] e
shown_end s e j nothing met m = grind arith

-- a byte was taken
pub Along-bumped : (s : Stream) (b : ℕ) → 0 < length s.ahead → b ≡ slice_index s.ahead 0
    → Along s (bumped s) (λ i j. Splits i (b ∷ []) j)
Along-bumped s b some first = record {
  bytes = [];
  taken = slice_index s.ahead 0 ∷ [];
  moves = grind (arith, append-nil);
  fact = grind arith;
}

-- bytes of a line were taken
pub Along-skipped : (s : Stream) (k : ℕ)
    → Along s (skipped k s) (λ i j. Splits i (take k s.ahead) j)
Along-skipped s k = record {
  bytes = [];
  taken = take k s.ahead;
  moves = grind (arith, append-nil, take-append-drop, length-drop);
  fact = grind arith;
}

pub most_to_come-bumped : (s : Stream) → 0 < length s.ahead
    → most_to_come (bumped s) < most_to_come s
most_to_come-bumped s some = grind (arith, common_steps)

-- each reader may give some input
pub some_input : (left : Option (List ℕ)) → (i : Input) × MayGive left i.bytes i.ending
some_input None = (record { bytes = []; ending = End }, tt)
some_input (Some all) = (record { bytes = all; ending = End }, refl)
