-- A text as lines of tokens (our own profile of DIMACS): a line that begins with `c` is a comment,
-- a token is a longest run of bytes without a separator, and it counts only where a separator or
-- the end of the input follows it.
use Rattle.std.specs.List.{slice_split}
use Rattle.std.specs.Prelude.{ℕ, ◌==◌, ◌||◌, Bool, suc, List, [], ◌∷◌, false, true, ◌++◌, ◌&&◌, ◌≡◌}
use Rattle.std.specs.Prelude.{Result, Ok, Err, ◌<◌, ◌≤◌}
use Rattle.cnf_base.specs.Stream.{next_count, Input, Suffix, Stream, most_to_come}
use Rattle.cnf_base.specs.Words.{word_of}
use Rattle.cnf_base.specs.declared.input.Ending.TheVariants.{End, Failed}
use Rattle.cnf_base.specs.declared.input.Ending.{Ending}
use Rattle.cnf_base.specs.declared.input.ReadFailed.{ReadFailed}
use Rattle.cnf_base.specs.declared.place.Place.{Place}
use Rattle.cnf_base.specs.declared.token.Token as tokens
use Rattle.cnf_base.specs.declared.token.Token.TheVariants as token

-- space, tab, CR and LF
abbrev pub is_separator : ℕ → Bool
is_separator b = b == 32 || b == 9 || b == 13 || b == 10

-- a place of an input, and the offset of the byte that stands there
pub record Spot : Type 0 where
  pub place : Place
  pub offset : ℕ

-- the place with this line and column, and its offset
abbrev pub spot : Place → ℕ → Spot
spot p offset = record { place = p; offset = offset }

-- past a byte of a line: one column on
abbrev pub one_on : Spot → Spot
one_on s =
    spot (record { line = s.place.line; col = next_count s.place.col }) (suc s.offset)

-- past the end of a line: at the start of the next one
abbrev pub next_line : Spot → Spot
next_line s = spot (record { line = next_count s.place.line; col = 1 }) (suc s.offset)

-- past these bytes of a line
abbrev pub along : Spot → List ℕ → Spot
along s [] = s
along s (b ∷ bs) = along (one_on s) bs

-- a token of an input, and the offset of the byte after it
abbrev pub Listed : Type 0
Listed = tokens.Token × ℕ

-- the tokens of a line's parts between separators: one for each part that isn't empty
abbrev pub words_of : Spot → List (List ℕ) → List Listed
words_of s [] = []
words_of s ([] ∷ parts) = words_of (one_on s) parts
words_of s ((b ∷ bs) ∷ parts) =
    (token.Word s.place (word_of (b ∷ bs)), (along s (b ∷ bs)).offset)
    ∷ words_of (one_on (along s (b ∷ bs))) parts

-- all but the last
abbrev pub but_last : List (List ℕ) → List (List ℕ)
but_last [] = []
but_last (x ∷ []) = []
but_last (x ∷ y ∷ ys) = x ∷ but_last (y ∷ ys)

-- a line that begins with a `c` is a comment
abbrev pub is_comment : List ℕ → Bool
is_comment [] = false
is_comment (b ∷ bs) = b == 99

-- the tokens of a whole line
abbrev pub line_tokens : Bool → Spot → List ℕ → List Listed
line_tokens true s line = []
line_tokens false s line =
    words_of s (slice_split is_separator line)
    ++ (token.LineEnd (along s line).place, (next_line (along s line)).offset) ∷ []

-- the tokens of the last line. A part that touches a failed read isn't listed.
abbrev pub last_tokens : Bool → Spot → List ℕ → Ending → List Listed
last_tokens true s line ending = []
last_tokens false s line End = words_of s (slice_split is_separator line)
last_tokens false s line Failed = words_of s (but_last (slice_split is_separator line))

-- what a text has: its tokens, the place of its end, and how it ends
pub record Listing : Type 0 where
  pub tokens : List Listed
  pub end : Place
  pub ending : Ending

-- a text with these tokens before its own
abbrev pub with_front : List Listed → Listing → Listing
with_front front l = record { tokens = front ++ l.tokens; end = l.end; ending = l.ending }

-- the lines from a spot on, where the first one is a comment or isn't
abbrev pub lines_listing : Bool → Spot → List (List ℕ) → Ending → Listing
lines_listing skips s [] ending = record { tokens = []; end = s.place; ending = ending }
lines_listing skips s (line ∷ []) ending =
    record { tokens = last_tokens skips s line ending; end = (along s line).place; ending = ending }
lines_listing skips s (line ∷ next ∷ lines) ending =
    with_front (line_tokens skips s line)
    (lines_listing (is_comment next) (next_line (along s line)) (next ∷ lines) ending)

-- the bytes between line feeds
abbrev pub lines_of : List ℕ → List (List ℕ)
lines_of bytes = slice_split (λ b. b == 10) bytes

-- at the start of a line the first line may be a comment
abbrev pub skips_at : Place → List ℕ → Bool
skips_at p bytes = (p.col == 1) && is_comment bytes

-- a text from a place on
abbrev pub listing_at : Place → Suffix → Listing
listing_at p i = lines_listing (skips_at p i.bytes) (spot p i.offset) (lines_of i.bytes) i.ending

-- a whole text
abbrev pub listing_of : Input → Listing
listing_of i =
    lines_listing (is_comment i.bytes) (spot (record { line = 1; col = 1 }) 0) (lines_of i.bytes)
    i.ending

-- a token is the first of a text, and what is left is the rest; the end and a failed read stay
abbrev pub Gives : Result tokens.Token ReadFailed → Listing → Listing → Suffix → Type 0
Gives (Ok (token.End p)) before after rest =
    (before ≡ after) × (before ≡ record { tokens = []; end = p; ending = End })
Gives (Ok t) before after rest = before ≡ with_front ((t, rest.offset) ∷ []) after
Gives (Err _) before after rest = (before ≡ after) × (before.tokens ≡ []) × (before.ending ≡ Failed)

-- each token but the end takes a byte
abbrev pub MovesOn : Result tokens.Token ReadFailed → Stream → Stream → Type 0
MovesOn (Ok (token.End _)) old new = most_to_come new ≤ most_to_come old
MovesOn (Ok _) old new = most_to_come new < most_to_come old
MovesOn (Err _) old new = most_to_come new ≤ most_to_come old
