-- How the code follows a text, word by word.
use Rattle.std.specs.Prelude.{ℕ, List, [], ◌∷◌, true, false, ◌≡◌, ◌<◌, Result, Ok, Err, OnOk, OnErr}
use Rattle.std.specs.Prelude.{length, slice_index}
use Rattle.cnf_base.specs.Stream.{Suffix, suffix, Stream, Along, most_to_come, tells_failure}
use Rattle.cnf_base.specs.Stream.{next_count}
use Rattle.cnf_base.specs.Text.{Listed, spot, lines_listing, Listing, lines_of, with_front}
use Rattle.cnf_base.specs.Text.{is_separator, skips_at, listing_at}
use Rattle.cnf_base.specs.declared.input.Ending.TheVariants.{Failed}
use Rattle.cnf_base.specs.declared.input.ReadFailed.{ReadFailed}
use Rattle.cnf_base.specs.declared.place.Place.{Place}
use Rattle.cnf_base.specs.declared.token.Token as tokens
use Rattle.cnf_base.specs.declared.token.Token.TheVariants as token
use Rattle.cnf_base.specs.declared.word.Word.{Word}

-- one column on
abbrev pub col_after : Place → Place
col_after p = record { line = p.line; col = next_count p.col }

-- the start of the next line
abbrev pub line_after : Place → Place
line_after p = record { line = next_count p.line; col = 1 }

-- a token with the offset of the byte after it
abbrev pub listed : tokens.Token → ℕ → Listed
listed t offset = (t, offset)

-- the place after these bytes of a line
abbrev pub col_along : Place → List ℕ → Place
col_along p [] = p
col_along p (b ∷ bs) = col_along (col_after p) bs

-- the rest of a comment and what follows it, from a place on
abbrev pub comment_at : Place → Suffix → Listing
comment_at p i = lines_listing true (spot p i.offset) (lines_of i.bytes) i.ending

-- a word is the first of a text, unless a failed read cuts it
abbrev pub GivesWord : Result Word ReadFailed → Place → Listing → Listing → Suffix → Type 0
GivesWord (Ok word) p before after rest =
    before ≡ with_front (listed (token.Word p word) rest.offset ∷ []) after
GivesWord (Err _) p before after rest =
    (before ≡ after) × (before.tokens ≡ []) × (before.ending ≡ Failed)

-- a failure leaves nothing to come
abbrev pub FailsAt : {A : Type 0} → Result A ReadFailed → Suffix → Type 0
FailsAt (Ok _) i = Unit {0}
FailsAt (Err _) i = i ≡ suffix i.offset [] Failed

-- a run begins where a text stands, with this byte, which was shown
pub record BeginsRun (source : Stream) (byte : ℕ) : Type 0 where
  pub ahead : 0 < length source.ahead
  pub first : byte ≡ slice_index source.ahead 0
  pub run : is_separator byte ≡ false
  pub text : skips_at source.place (byte ∷ []) ≡ false

-- a run is taken of a text, and its word is the result
pub record TakesWord (result : Result Word ReadFailed) (old new : Stream) : Type 0 where
  pub text : Along old new (λ i j.
      GivesWord result old.place (listing_at old.place i) (listing_at new.place j) j)
  pub fewer : most_to_come new < most_to_come old
  pub failed : OnErr result (tells_failure new.reader ≡ true)
  pub mark : OnOk result (tells_failure new.reader ≡ tells_failure old.reader)
