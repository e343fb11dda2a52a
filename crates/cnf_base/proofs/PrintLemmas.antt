-- Texts that were printed plainly, as they are read.
use Rattle.cnf_base.proofs.TextLemmas.{Each, Each-all, IsRun, listing_at-feed, listing_at-run}
use Rattle.cnf_base.proofs.TextLemmas.{listing_at-separator, more, none}
use Rattle.{cnf_base.specs.Code.Digits.decimal_value, std.proofs.Common.{◌^◌, ◌∙◌, ◌∷◌, ◌≡◌, ◌≤◌}}
use Rattle.cnf_base.specs.Code.Text.{col_after, col_along, line_after, listed}
use Rattle.cnf_base.specs.{Literals.{Literal, variable}, Stream.suffix, declared.place.Place.Place}
use Rattle.{cnf_base.specs.Printing.{is_literal, literal_text, words_line}, std.specs.List.list_all}
use Rattle.cnf_base.specs.Text.{Listing, is_comment, is_separator, listing_at, with_front}
use Rattle.cnf_base.specs.Words.{is_counting, is_digit, number, number_literal, size_of, word_of}
use Rattle.cnf_base.specs.declared.{input.Ending.TheVariants.End, word.Number.Number}
use Rattle.std.proofs.Common.{Bool, List, Option, Some, [], ap, append-nil, append_assoc, arith}
use Rattle.std.proofs.Common.{codes, cond, decimal, false, fold, length, length-append, nat_le, not}
use Rattle.std.proofs.Common.{refl, suc, true, zero, ℕ, ◌%◌, ◌&&◌, ◌*◌, ◌++◌, ◌+◌, ◌-◌, ◌<◌, ◌==◌}
use Rattle.std.proofs.lemmas.{Bool.Decides.nat_tests, Fmt.{digits_value-decimal, first_decimal}}
use Rattle.std.proofs.lemmas.Fmt.{decimal_digit, decimal_nonempty, digits_decimal}
use Rattle.std.proofs.lemmas.Str.Parse.{IsDigitsTest, IsNumeralModel, numerals_by_fold}
use Rattle.cnf_base.specs.declared.word.Word.TheVariants as words
use Rattle.cnf_base.specs.declared.token.Token as tokens
use Rattle.cnf_base.specs.declared.token.Token.TheVariants as token

-- ---- Lines of words

-- what follows a word of a line, and then the line
abbrev pub after_word : List (List ℕ) → List ℕ → List ℕ
after_word [] rest = 10 ∷ rest
after_word (w ∷ ws) rest = 32 ∷ w ++ after_word ws rest

-- a text from after a word of a line on: the words that are left of the line, and what follows it
abbrev pub line_from : Place → ℕ → List (List ℕ) → List ℕ → Listing
line_from p n ws rest = listing_at p (suffix n (after_word ws rest) End)

-- a line's first word, and what follows it
pub words_line-cons : (w : List ℕ) (ws : List (List ℕ)) (rest : List ℕ)
    → words_line (w ∷ ws) ++ rest ≡ w ++ after_word ws rest
words_line-cons w [] rest = append_assoc w (10 ∷ []) rest
words_line-cons w (v ∷ vs) rest = grind (arith, append_assoc, words_line-cons v vs rest)

-- the offset of the byte after a line of which these words are left
abbrev pub end_of_line : ℕ → List (List ℕ) → ℕ
end_of_line n ws = n + length (after_word ws [])

-- it stays while words are taken
pub end_of_line-next : (n : ℕ) (w : List ℕ) (ws : List (List ℕ))
    → end_of_line (suc n + length w) ws ≡ end_of_line n (w ∷ ws)
end_of_line-next n w ws = grind (arith, length-append)

pub end_of_line-first : (n : ℕ) (w : List ℕ) (ws : List (List ℕ))
    → end_of_line (n + length w) ws ≡ n + length (words_line (w ∷ ws))
end_of_line-first n w ws =
    let all = words_line-cons w ws [] in let same = append-nil (words_line (w ∷ ws)) in
    grind (arith, length-append)

-- a word that is a token
pub record IsPlain (w : List ℕ) : Type 0 where
  pub each : Each is_separator w
  pub some : 0 < length w

-- the column after a byte, and after bytes
pub after_from_one : (p : Place) → 0 < (col_after p).col
after_from_one p = omega arith

pub along_from_one : (p : Place) (w : List ℕ) → 0 < p.col → 0 < (col_along p w).col
along_from_one p [] h = h
along_from_one p (b ∷ bs) h = along_from_one (col_after p) bs (after_from_one p)

-- the place after the next word of a line
abbrev pub past : Place → List ℕ → Place
past p w = col_along (col_after p) w

pub past_from_one : (p : Place) (w : List ℕ) → 0 < (past p w).col
past_from_one p w = along_from_one (col_after p) w (after_from_one p)

-- a text's first token, the offset of the byte after it, and the text after it
pub record Begins (before : Listing) (t : tokens.Token) (offset : ℕ) (after : Listing) : Type 0
  where
    pub is : before ≡ with_front (listed t offset ∷ []) after

-- a word, and the rest of its line
run_first : (p : Place) (n : ℕ) (w : List ℕ) (ws : List (List ℕ)) (rest : List ℕ) → IsRun p w
    → listing_at p (suffix n (w ++ after_word ws rest) End)
    ≡ with_front (listed (token.Word p (word_of w)) (n + length w) ∷ [])
    (line_from (col_along p w) (n + length w) ws rest)
run_first p n w [] rest r = listing_at-run p n w 10 rest End r refl
run_first p n w (v ∷ vs) rest r = grind (arith, listing_at-run)

-- a line's next word
pub next_word : (p : Place) (n : ℕ) (w : List ℕ) (ws : List (List ℕ)) (rest : List ℕ) → 0 < p.col
    → IsPlain w → Begins (line_from p n (w ∷ ws) rest) (token.Word (col_after p) (word_of w))
    (suc n + length w) (line_from (past p w) (suc n + length w) ws rest)
next_word p n w ws rest from_one plain = record {
  is = listing_at-separator p n 32 (w ++ after_word ws rest) End from_one refl refl
      ∙ run_first (col_after p) (suc n) w ws rest (grind arith);
}

-- a line's end
pub next_line : (p : Place) (n : ℕ) (rest : List ℕ)
    → Begins (line_from p n [] rest) (token.LineEnd p) (suc n)
    (listing_at (line_after p) (suffix (suc n) rest End))
next_line p n rest = record { is = listing_at-feed p n rest End }

-- a line's first word, which begins no comment
pub first_word : (p : Place) (n : ℕ) (w : List ℕ) (ws : List (List ℕ)) (rest : List ℕ)
    → is_comment w ≡ false → IsPlain w
    → Begins (listing_at p (suffix n (words_line (w ∷ ws) ++ rest) End)) (token.Word p (word_of w))
    (n + length w) (line_from (col_along p w) (n + length w) ws rest)
first_word p n w ws rest no_comment plain = grind (arith, words_line-cons, run_first)

-- ---- Words

-- a fixed word
pub fixed_plain : (b : ℕ) (bs : List ℕ) → list_all (λ b. not (is_separator b)) (b ∷ bs) ≡ true
    → IsPlain (b ∷ bs)
fixed_plain b bs h = grind (arith, Each-all)

-- both of two tests
pub both : (a b : Bool) → (a && b) ≡ true → (a ≡ true) × (b ≡ true)
both a b h = grind arith

-- digits
abbrev pub AreAllDigits : List ℕ → Type 0
AreAllDigits ds = list_all is_digit ds ≡ true

-- our words for them mean what those of the library do
digits_test : IsDigitsTest AreAllDigits
digits_test = grind arith

pub numerals : IsNumeralModel AreAllDigits decimal_value
numerals = numerals_by_fold AreAllDigits digits_test (fold (λ n d. n * 10 + (d - 48)))
    (record { empty = λ n. refl; more = λ n d ds k. refl })

-- the digits of a number other than 0
module _ (n : ℕ) (some : 0 < n) (small : n < 2 ^ 64) where
  decimal_size : n ≡ size_of (decimal n)
  decimal_size = grind (arith, digits_value-decimal, numerals)

  decimal_counting : is_counting (decimal n) ≡ true
  decimal_counting =
      let first = first_decimal n some small in
      grind (arith, decimal_nonempty, digits_decimal, numerals)

digits_each : (ds : List ℕ) → AreAllDigits ds → Each is_separator ds
digits_each [] h = none
digits_each (d ∷ ds) h = let later = digits_each ds in grind (arith, nat_tests, more)

-- a number's text is a token, after a `-` too, and begins no comment
pub decimal_plain : (n : ℕ) → n < 2 ^ 64 → IsPlain (decimal n)
decimal_plain n small = grind (arith, digits_each, digits_decimal, numerals, decimal_nonempty)

pub minus_plain : (n : ℕ) → n < 2 ^ 64 → IsPlain (45 ∷ decimal n)
minus_plain n small = grind (arith, more, decimal_plain)

pub decimal_no_comment : (n : ℕ) → n < 2 ^ 64 → is_comment (decimal n) ≡ false
decimal_no_comment n small = grind (arith, digits_decimal, numerals)

-- the word of a number other than 0, and after a `-`
module _ (n : ℕ) (some : 0 < n) (small : n < 2 ^ 64) where
  pub decimal_word : word_of (decimal n) ≡ words.Number (number false n)
  decimal_word = grind (arith, decimal_counting, decimal_size)

  pub minus_word : word_of (45 ∷ decimal n) ≡ words.Number (number true n)
  minus_word = grind (arith, decimal_counting, decimal_size)

-- the word of a number, also of 0
pub count_word : (n : ℕ) → n < 2 ^ 64 → word_of (decimal n) ≡ words.Number (number false n)
count_word zero small = ap word_of (decimal_digit 0 (omega arith))
count_word (suc n) small = decimal_word (suc n) (omega arith) small

-- the `0` that ends numbers
pub zero_plain : IsPlain (codes "0")
zero_plain = fixed_plain 48 [] refl

-- ---- Literals

-- the number of a literal
abbrev pub literal_number : Literal → Number
literal_number l = number (not (l % 2 == 0)) (variable l)

pub literal_range : (greatest l : ℕ) → is_literal greatest l ≡ true → (1 ≤ variable l)
    × (variable l ≤ greatest)
literal_range greatest l h = grind (arith, nat_tests)

-- a literal within the limit: its word, that its text is a token and begins no comment, and what it
-- is taken for
module _ (greatest l : ℕ) (within : greatest ≤ 268435455) (is : is_literal greatest l ≡ true) where
  pub literal_word : word_of (literal_text l) ≡ words.Number (literal_number l)
  literal_word = grind (arith, decimal_word, minus_word, literal_range)

  pub literal_plain : IsPlain (literal_text l)
  literal_plain =
      let range = literal_range greatest l is in
      grind (arith, decimal_plain (variable l), minus_plain (variable l))

  pub literal_no_comment : is_comment (literal_text l) ≡ false
  literal_no_comment = grind (arith, decimal_no_comment, literal_range)

  pub literal_taken : {X : Type 0} (take : Option Literal → X) (other : X)
      → cond (nat_le (variable l) 268435455) (take (number_literal (literal_number l))) other
      ≡ take (Some l)
  literal_taken {X} take other = grind arith
