-- Numbers that stand whole in what was read ahead: a separator follows (our own profile).
use Rattle.std.specs.List.{list_all}
use Rattle.std.specs.Prelude.{ℕ, not, Bool, ◌≡◌, ◌<◌, ◌≤◌, true, List, length, slice_index}
use Rattle.std.specs.Prelude.{cond, drop, take, Ok, ◌==◌, ◌-◌}
use Rattle.cnf_base.specs.Stream.{Along, Stream}
use Rattle.cnf_base.specs.Text.{Gives, is_separator, listing_at}
use Rattle.cnf_base.specs.Words.{word_of}
use Rattle.cnf_base.specs.declared.place.Place.{Place}
use Rattle.cnf_base.specs.declared.token.Token.TheVariants as token
use Rattle.cnf_base.specs.declared.word.Number.{Number}
use Rattle.cnf_base.specs.declared.word.Word.TheVariants as words

-- a byte of a run
abbrev pub is_inner : ℕ → Bool
is_inner b = not (is_separator b)

-- a separator follows so many bytes
pub record IsEnded (bytes : List ℕ) (count : ℕ) : Type 0 where
  pub within : count < length bytes
  pub separator : is_separator (slice_index bytes count) ≡ true

-- so many bytes are a run that is a number
pub record IsWholeNumber (bytes : List ℕ) (count : ℕ) (number : Number) : Type 0 where
  pub some : 0 < count
  pub ended : IsEnded bytes count
  pub inner : list_all is_inner (take count bytes) ≡ true
  pub says : word_of (take count bytes) ≡ words.Number number

-- The next token of a source is a number, before which one space stands or nothing: both have so
-- many bytes.
pub record IsNumberAhead (s : Stream) (count : ℕ) (number : Number) : Type 0 where
  pub enough : 2 ≤ length s.ahead
  pub whole : cond (slice_index s.ahead 0 == 32)
      (IsWholeNumber (drop 1 s.ahead) (count - 1) number) (IsWholeNumber s.ahead count number)
  pub some : 0 < count

-- the number at this place is taken
abbrev pub TakesNumber : Place → Number → Stream → Stream → Type 0
TakesNumber p number old new =
    Along old new (λ i j. Gives (Ok (token.Word p (words.Number number)))
    (listing_at old.place i) (listing_at new.place j) j)
