-- A text's words, as it is read, and that a number and a fixed word are spelled in one way.
use Rattle.cnf_base.proofs.{PrintLemmas.numerals, TextLemmas.{first_part, is_comment-lines_of}}
use Rattle.cnf_base.specs.{Grammar.{is_word, text_words, word_lines, words_in}, Printing.input_of}
use Rattle.cnf_base.specs.Text.{Listed, Listing, Spot, along, is_comment, is_separator, line_tokens}
use Rattle.cnf_base.specs.Text.{lines_listing, listing_of, next_line, one_on, spot, with_front}
use Rattle.cnf_base.specs.{Text.words_of, Words.{fixed_word, is_counting, number, size_of, word_of}}
use Rattle.cnf_base.specs.declared.{input.Ending.TheVariants.End, word.Word.Word}
use Rattle.std.proofs.Common.{Bool, List, None, Option, Some, [], ap, append-nil, append_assoc}
use Rattle.std.proofs.Common.{arith, codes, decimal, false, filter, filter_map, flat_map, map, not}
use Rattle.std.proofs.Common.{refl, rules, true, ℕ, ◌++◌, ◌==◌, ◌∷◌, ◌≡◌, ◌≤◌, ◌⊎◌}
use Rattle.std.proofs.lemmas.{Bool.Decides.nat_tests, Fmt.{decimal-digits_value, decimal_digit}}
use Rattle.std.proofs.lemmas.List.{map-append, Elements.filter_map-append, Folds.list_all-append}
use Rattle.std.{proofs.lemmas.Slice.Eq.bytes_eq-Decides, specs.List.{cons_option, list_all}}
use Rattle.std.specs.List.{slice_split}
use Rattle.cnf_base.specs.declared.word.Word.TheVariants as words
use Rattle.cnf_base.specs.declared.token.Token as tokens
use Rattle.cnf_base.specs.declared.token.Token.TheVariants as token

-- ---- Tokens without their places

-- a token's word, or a line's end
abbrev pub said : tokens.Token → Option Word
said (token.Word p w) = Some w
said (token.LineEnd p) = None
said (token.End p) = None

-- a word, or a line's end
abbrev pub is_inside : tokens.Token → Bool
is_inside (token.Word p w) = true
is_inside (token.LineEnd p) = true
is_inside (token.End p) = false

abbrev pub all_said : List Listed → List (Option Word)
all_said ts = map (λ t. said t.0) ts

-- what a line's words say, and its end
abbrev pub line_said : List (List ℕ) → List (Option Word)
line_said words = map (λ w. Some (word_of w)) words ++ None ∷ []

abbrev pub text_said : List ℕ → List (Option Word)
text_said bytes = flat_map line_said (word_lines bytes)

-- a listing says so, but that the last line may have no end
pub record Says (l : Listing) (all : List (Option Word)) : Type 0 where
  pub words : (all_said l.tokens ≡ all) ⊎ (all_said l.tokens ++ None ∷ [] ≡ all)
  pub inside : list_all (λ t. is_inside t.0) l.tokens ≡ true
  pub ending : l.ending ≡ End

-- the words of a line
parts_said : (s : Spot) (parts : List (List ℕ))
    → all_said (words_of s parts) ≡ map (λ w. Some (word_of w)) (filter is_word parts)
parts_said s [] = refl
parts_said s ([] ∷ parts) = parts_said (one_on s) parts
parts_said s ((b ∷ bs) ∷ parts) = cc (parts_said (one_on (along s (b ∷ bs))) parts)

-- and each is a word, before what follows
parts_inside : (s : Spot) (parts : List (List ℕ)) (ts : List Listed)
    → list_all (λ t. is_inside t.0) (words_of s parts ++ ts) ≡ list_all (λ t. is_inside t.0) ts
parts_inside s [] ts = refl
parts_inside s ([] ∷ parts) ts = parts_inside (one_on s) parts ts
parts_inside s ((b ∷ bs) ∷ parts) ts = parts_inside (one_on (along s (b ∷ bs))) parts ts

-- the lines from a spot on
abbrev lines_said : List (List ℕ) → List (Option Word)
lines_said lines = flat_map line_said (map words_in (filter (λ line. not (is_comment line)) lines))

-- a line in front of others
-- tokens in front
Says-front : (front : List Listed) (l : Listing) (all : List (Option Word))
    → list_all (λ t. is_inside t.0) front ≡ true → Says l all
    → Says (with_front front l) (all_said front ++ all)
Says-front front l all are says = grind (arith, list_all-append, map-append, append_assoc)

lines_say : (skips : Bool) (s : Spot) (line : List ℕ) (rest : List (List ℕ))
    → is_comment line ≡ skips → Says (lines_listing skips s (line ∷ rest) End)
    (lines_said (line ∷ rest))
lines_say true s line [] e = grind arith
lines_say false s line [] e =
    let inside = parts_inside s (slice_split is_separator line) [] in
    grind (arith, parts_said, append-nil)
lines_say true s line (next ∷ rest) e =
    grind (arith, lines_say (is_comment next) (next_line (along s line)) next rest refl)
lines_say false s line (next ∷ rest) e =
    let later = lines_say (is_comment next) (next_line (along s line)) next rest refl in
    let front : all_said (line_tokens false s line) ≡ line_said (words_in line) =
    grind (arith, map-append, parts_said) in
    rw (e, ← front) (search (rules, Says-front, parts_inside))

-- a whole text
pub listing_says : (bytes : List ℕ) → Says (listing_of (input_of bytes)) (text_said bytes)
listing_says bytes =
    let f = first_part (λ b. b == 10) bytes in
    let says = lines_say (is_comment bytes) (spot (record { line = 1; col = 1 }) 0) f.0 f.1 in
    grind (arith, is_comment-lines_of bytes f.0 f.1 f.2)

-- the words of a text, line ends aside
pub listing_words : (bytes : List ℕ)
    → filter_map (λ t. said t.0) (listing_of (input_of bytes)).tokens
    ≡ map word_of (text_words bytes)
listing_words bytes =
    let says = (listing_says bytes).words in let of_lines = lines (word_lines bytes) in
    let all = somes (listing_of (input_of bytes)).tokens in
    grind (arith, append-nil, filter_map-append)
  where
    somes : (ts : List Listed) → filter_map (λ t. said t.0) ts ≡ filter_map (λ w. w) (all_said ts)
    somes [] = refl
    somes (t ∷ ts) = ap (cons_option (said t.0)) (somes ts)

    line : (words : List (List ℕ)) (rest : List (Option Word))
        → filter_map (λ w. w) (line_said words ++ rest)
        ≡ map word_of words ++ filter_map (λ w. w) rest
    line [] rest = refl
    line (w ∷ ws) rest = ap (λ t. word_of w ∷ t) (line ws rest)

    lines : (all : List (List (List ℕ)))
        → filter_map (λ w. w) (flat_map line_said all) ≡ map word_of (flat_map (λ line. line) all)
    lines [] = refl
    lines (words ∷ all) =
        let joined = map-append word_of words (flat_map (λ line. line) all) in
        cc (line words (flat_map line_said all), lines all)

-- ---- Spelling

-- a number's text
abbrev pub number_text : Bool → ℕ → List ℕ
number_text false n = decimal n
number_text true n = 45 ∷ decimal n

-- how a word is spelled
abbrev pub IsSpelled : Word → List ℕ → Type 0
IsSpelled (words.Number n) run =
    n.size ≤ 9223372036854775807 → (run ≡ number_text n.is_negative n.size)
    × (n.is_negative ≡ true → 1 ≤ n.size)
IsSpelled words.P run = run ≡ codes "p"
IsSpelled words.Cnf run = run ≡ codes "cnf"
IsSpelled words.D run = run ≡ codes "d"
IsSpelled words.S run = run ≡ codes "s"
IsSpelled words.V run = run ≡ codes "v"
IsSpelled words.Satisfiable run = run ≡ codes "SATISFIABLE"
IsSpelled words.Unsatisfiable run = run ≡ codes "UNSATISFIABLE"
IsSpelled words.Unknown run = run ≡ codes "UNKNOWN"
IsSpelled words.Other run = Unit {0}

-- digits without a leading zero
counting_text : (ds : List ℕ) → is_counting ds ≡ true → size_of ds ≤ 9223372036854775807
    → (ds ≡ decimal (size_of ds)) × (1 ≤ size_of ds)
counting_text [] h small = absurd (cc)
counting_text (d ∷ ds) h small =
    grind (arith, nat_tests, decimal-digits_value numerals (d ∷ ds), decimal_digit)

-- the fixed words
fixed_spelled : (run : List ℕ) → IsSpelled (fixed_word run) run
fixed_spelled run = search rules

-- each word
pub word_spelled : (run : List ℕ) → IsSpelled (word_of run) run
word_spelled run = grind (arith, bytes_eq-Decides, fixed_spelled, counting_text, decimal_digit)

-- a number within the limit has one spelling
pub number_spelled : (run : List ℕ) (is_negative : Bool) (n : ℕ) → n ≤ 9223372036854775807
    → word_of run ≡ words.Number (number is_negative n) → (run ≡ number_text is_negative n)
    × (is_negative ≡ true → 1 ≤ n)
number_spelled run is_negative n small e = grind (arith, word_spelled run)

-- and so do the fixed words
pub p_spelled : (run : List ℕ) → word_of run ≡ words.P → run ≡ codes "p"
p_spelled run e = grind (arith, word_spelled run)

pub cnf_spelled : (run : List ℕ) → word_of run ≡ words.Cnf → run ≡ codes "cnf"
cnf_spelled run e = grind (arith, word_spelled run)

pub s_spelled : (run : List ℕ) → word_of run ≡ words.S → run ≡ codes "s"
s_spelled run e = grind (arith, word_spelled run)

pub v_spelled : (run : List ℕ) → word_of run ≡ words.V → run ≡ codes "v"
v_spelled run e = grind (arith, word_spelled run)

pub satisfiable_spelled : (run : List ℕ) → word_of run ≡ words.Satisfiable
    → run ≡ codes "SATISFIABLE"
satisfiable_spelled run e = grind (arith, word_spelled run)
