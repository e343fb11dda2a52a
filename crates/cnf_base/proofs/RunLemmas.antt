-- What a scanner has seen of a text, byte by byte.
use Rattle.cnf_base.proofs.StreamLemmas.{Along-bumped, Along-look, Along-map, Along-skipped}
use Rattle.cnf_base.proofs.StreamLemmas.{Along-still, Along-then, Splits, most_to_come-bumped}
use Rattle.cnf_base.proofs.{StreamLemmas.{most_to_come-look, shown_byte}, TextLemmas.Each-all}
use Rattle.cnf_base.proofs.TextLemmas.{IsRun, col_along-length, listing_at-cut_run, listing_at-run}
use Rattle.cnf_base.proofs.TextLemmas.{listing_at-separator, more, none, skips_at-front}
use Rattle.cnf_base.specs.{Ahead.{IsNumberAhead, IsWholeNumber}, Code.Text.{col_along, comment_at}}
use Rattle.cnf_base.specs.{Code.Text.listed, Stream.{Along, IsLook, Stream, bumped, most_to_come}}
use Rattle.cnf_base.specs.{Stream.{skipped, tells_failure}, Text.{is_separator, listing_at}}
use Rattle.cnf_base.specs.{Text.{skips_at, with_front}, Words.word_of}
use Rattle.cnf_base.specs.declared.{input.Ending.TheVariants.Failed, place.Place.Place}
use Rattle.{cnf_base.specs.declared.word.{Number.Number, Word.Word}, std.proofs.Common.{List, Some}}
use Rattle.std.proofs.Common.{[], arith, drop, false, length, length-drop, refl, rules, slice_index}
use Rattle.std.proofs.Common.{slice_range, sym, take, take_all, true, ℕ, ◌+◌, ◌-◌, ◌<◌, ◌==◌, ◌∙◌}
use Rattle.std.proofs.{Common.{◌∷◌, ◌≡◌, ◌≤◌}, lemmas.Grind.common_steps}
use Rattle.cnf_base.specs.declared.word.Word.TheVariants as words
use Rattle.cnf_base.specs.declared.token.Token as tokens
use Rattle.cnf_base.specs.declared.token.Token.TheVariants as token

-- a text with this token first, which was taken of it
abbrev pub GivesFirst : tokens.Token → Stream → Stream → Type 0
GivesFirst t old new = Along old new (λ i j.
    listing_at old.place i ≡ with_front (listed t j.offset ∷ []) (listing_at new.place j))

-- no token is left, for a read has failed
abbrev pub IsCut : Stream → Stream → Type 0
IsCut old new = Along old new (λ i j. (listing_at old.place i ≡ listing_at new.place j)
    × ((listing_at old.place i).tokens ≡ []) × ((listing_at old.place i).ending ≡ Failed))

-- bytes of a comment were taken
abbrev pub InComment : Stream → Stream → Type 0
InComment old now = Along old now (λ i j. comment_at old.place i ≡ comment_at now.place j)

-- from one moment to another no token was given
pub record Stands (old now : Stream) : Type 0 where
  pub text : Along old now (λ i j. listing_at old.place i ≡ listing_at now.place j)
  pub fewer : most_to_come now ≤ most_to_come old
  pub mark : tells_failure now.reader ≡ tells_failure old.reader

pub Stands-start : (s : Stream) → Stands s s
Stands-start s = search (rules, Along-still)

-- this run was taken
pub record InRun (old now : Stream) (run : List ℕ) : Type 0 where
  pub is_run : IsRun old.place run
  pub place : now.place ≡ col_along old.place run
  pub text : Along old now (λ i j. Splits i run j)
  pub fewer : most_to_come now < most_to_come old
  pub mark : tells_failure now.reader ≡ tells_failure old.reader

pub InRun-looked : (old now new : Stream) (run : List ℕ) → InRun old now run → IsLook now new
    → tells_failure new.reader ≡ tells_failure now.reader → InRun old new run
InRun-looked old now new run r l mark = record {
  is_run = r.is_run;
  place = l.place ∙ r.place;
  text = Along-then old now new _ _ _ r.text (Along-look now new l) (grind arith);
  fewer = grind (arith, most_to_come-look);
  mark = mark ∙ r.mark;
}

pub InRun-first : (old : Stream) (first : ℕ) → 0 < length old.ahead
    → first ≡ slice_index old.ahead 0 → is_separator first ≡ false
    → skips_at old.place (first ∷ []) ≡ false → InRun old (bumped old) (first ∷ [])
InRun-first old first some shown inner skips = record {
  is_run = grind (arith, more, none);
  place = grind arith;
  text = Along-bumped old first some shown;
  fewer = most_to_come-bumped old some;
  mark = refl;
}

-- a separator follows the run
pub InRun-separator : (old now : Stream) (word : Word) (run : List ℕ) (b : ℕ) → word ≡ word_of run
    → InRun old now run → 0 < length now.ahead → b ≡ slice_index now.ahead 0 → is_separator b ≡ true
    → GivesFirst (token.Word old.place word) old now
InRun-separator old now word run b says r some first h =
    Along-map old now _ _ r.text (λ i j m p. let s = shown_byte now b j some first m in
    grind (arith, listing_at-run))

-- a number's run was taken at once, and a separator follows
pub whole_number-read : (old : Stream) (first count : ℕ) (number : Number) → 0 < length old.ahead
    → first ≡ slice_index old.ahead 0 → skips_at old.place (first ∷ []) ≡ false
    → IsWholeNumber old.ahead count number
    → GivesFirst (token.Word old.place (words.Number number)) old (skipped count old)
whole_number-read old first count number some shown skips w =
    InRun-separator old (skipped count old) (words.Number number) (take count old.ahead)
    (slice_index (drop count old.ahead) 0) (sym w.says) run (grind (arith, length-drop)) refl
    (grind (arith, common_steps))
  where
    run : InRun old (skipped count old) (take count old.ahead)
    run = record {
      is_run = grind (arith, Each-all, skips_at-front);
      place = search (rules, col_along-length);
      text = Along-skipped old count;
      fewer = grind (arith, length-drop);
      mark = refl;
    }

-- a run of one byte, which a separator follows
pub one_byte-read : (old : Stream) (first : ℕ) (word : Word) → first ≡ slice_index old.ahead 0
    → word ≡ word_of (first ∷ []) → is_separator first ≡ false
    → skips_at old.place (first ∷ []) ≡ false → 2 ≤ length old.ahead
    → is_separator (slice_index old.ahead 1) ≡ true
    → GivesFirst (token.Word old.place word) old (bumped old)
one_byte-read old first word shown says inner skips long separator =
    InRun-separator old (bumped old) word (first ∷ []) (slice_index (drop 1 old.ahead) 0) says
    (InRun-first old first (omega (arith, long)) shown inner skips) (grind (arith, length-drop))
    refl (grind (arith, common_steps))

-- a failed read cuts the run
pub InRun-failed : (old now new : Stream) (run : List ℕ) → InRun old now run → IsLook now new
    → new.ahead ≡ [] → new.met ≡ Some Failed → IsCut old new
InRun-failed old now new run r look nothing met =
    Along-then old now new _ _ _ r.text (Along-look now new look)
    (grind (arith, listing_at-cut_run))

pub Stands-looked : (old now new : Stream) → Stands old now → IsLook now new
    → tells_failure new.reader ≡ tells_failure now.reader → Stands old new
Stands-looked old now new s l mark = record {
  text = Along-then old now new _ _ _ s.text (Along-look now new l) (grind arith);
  fewer = grind (arith, most_to_come-look);
  mark = mark ∙ s.mark;
}

-- a separator was taken that is no line feed
pub Stands-separator : (old now : Stream) (b : ℕ) → Stands old now → 0 < now.place.col
    → 0 < length now.ahead → b ≡ slice_index now.ahead 0 → is_separator b ≡ true → (b == 10) ≡ false
    → Stands old (bumped now)
Stands-separator old now b s from_one some first h line = record {
  text = Along-then old now (bumped now) _ _ _ s.text (Along-bumped now b some first)
      (grind (arith, listing_at-separator));
  fewer = grind arith;
  mark = s.mark;
}

-- a comment's first byte was taken
module _ (old now : Stream) (b : ℕ) (s : Stands old now) (some : 0 < length now.ahead)
    (first : b ≡ slice_index now.ahead 0) (is_c : (b == 99) ≡ true)
    (start : (now.place.col == 1) ≡ true) where
  pub Stands-c : Along old (bumped now)
      (λ i j. listing_at old.place i ≡ comment_at (bumped now).place j)
  Stands-c =
      Along-then old now (bumped now) _ _ _ s.text (Along-bumped now b some first) (grind arith)

pub comment-looked : (old now new : Stream) → InComment old now → IsLook now new → InComment old new
comment-looked old now new text look =
    Along-then old now new _ _ _ text (Along-look now new look) (grind arith)

-- a word was read
pub Stands-word : (old now new : Stream) (p : Place) (word : Word) → Stands old now → p ≡ now.place
    → GivesFirst (token.Word now.place word) now new → GivesFirst (token.Word p word) old new
Stands-word old now new p word s e run = grind (arith, Along-then)

-- a failed read cut the word
pub Stands-cut_word : (old now new : Stream) → Stands old now → IsCut now new → IsCut old new
Stands-cut_word old now new s run = grind (arith, Along-then)

-- ---- A number after a space, or after nothing

pub IsNumberAhead-spaced : (s : Stream) (count : ℕ) (number : Number) → 2 ≤ length s.ahead
    → slice_index s.ahead 0 ≡ 32 → IsWholeNumber (slice_range s.ahead 1 (length s.ahead))
    count number → IsNumberAhead s (1 + count) number
IsNumberAhead-spaced s count number enough space w =
    let same : 1 + count - 1 ≡ count = omega arith in
    let rest_is : slice_range s.ahead 1 (length s.ahead) ≡ drop 1 s.ahead =
    grind (arith, take_all) in
    record { enough = enough; whole = rw (space, same) (rw rest_is at w); some = omega arith }

pub spaced-read : (old : Stream) (p : Place) (count : ℕ) (number : Number) → 0 < old.place.col
    → slice_index old.ahead 0 ≡ 32 → IsNumberAhead old count number → p ≡ (bumped old).place
    → GivesFirst (token.Word p (words.Number number)) old (skipped (count - 1) (bumped old))
spaced-read old p count number from_one space w here =
    let whole : IsWholeNumber (drop 1 old.ahead) (count - 1) number = grind arith in
    Stands-word old (bumped old) (skipped (count - 1) (bumped old)) p (words.Number number)
    (grind (arith, Stands-separator, Stands-start)) here
    (whole_number-read (bumped old) (slice_index (drop 1 old.ahead) 0) (count - 1) number
    (grind arith) refl (search rules) whole)

pub at_once-read : (old : Stream) (p : Place) (count : ℕ) (number : Number)
    → (slice_index old.ahead 0 == 32) ≡ false → IsNumberAhead old count number → p ≡ old.place
    → GivesFirst (token.Word p (words.Number number)) old (skipped count old)
at_once-read old p count number other w here =
    search (rules, Stands-word, Stands-start, whole_number-read)
