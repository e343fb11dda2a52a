-- Tokens as the words of lines, where places don't matter, and how words are spelled.
use Rattle.cnf_base.proofs.GrammarLemmas.{all_said, is_inside, line_said, listing_says}
use Rattle.cnf_base.proofs.{GrammarLemmas.{number_spelled, said, text_said}, PrintLemmas.both}
use Rattle.cnf_base.specs.{Grammar.word_lines, Literals.{Literal, variable}, Printing.input_of}
use Rattle.cnf_base.specs.{Printing.literal_text, Text.{Listed, listing_of}, Words.number_literal}
use Rattle.cnf_base.specs.{Words.word_of, declared.word.{Number.Number, Word.Word}}
use Rattle.{dimacs.specs.Grammar.{all_words, filled_lines}, std.proofs.Common.{List, None, Option}}
use Rattle.std.proofs.Common.{Some, [], ap, arith, codes, cond, inl, inr, nat_le, refl, rules}
use Rattle.std.proofs.Common.{subst, true, ℕ, ◌&&◌, ◌*◌, ◌++◌, ◌+◌, ◌∙◌, ◌∷◌, ◌≡◌, ◌≤◌, ◌⊎◌}
use Rattle.std.{proofs.lemmas.{Bool.Decides.nat_tests, Fmt.decimal_digit}, specs.Bool.then_some}
use Rattle.std.specs.List.{flat_map, list_all}
use Rattle.cnf_base.specs.declared.word.Word.TheVariants as words
use Rattle.cnf_base.specs.declared.token.Token as tokens
use Rattle.cnf_base.specs.declared.token.Token.TheVariants as token

abbrev pub Lines : Type 0
Lines = List (List (List ℕ))

-- ---- What may be missing

abbrev pub and_so : {A B : Type 0} → Option A → (A → Option B) → Option B
and_so None next = None
and_so (Some x) next = next x

pub went_on : {A B : Type 0} (o : Option A) (next : A → Option B) (y : B) → and_so o next ≡ Some y
    → (x : A) × (o ≡ Some x) × (next x ≡ Some y)
went_on o next y h = search rules

pub some_parts : {A B : Type 0} (x y : A × B) → Some x ≡ Some y → (x.0 ≡ y.0) × (x.1 ≡ y.1)
some_parts x y e = let same : x ≡ y = cc in (ap (λ p. p.0) same, ap (λ p. p.1) same)

-- ---- Tokens and lines

-- what a line says, and then others: its words, and its end
abbrev pub line_then : List (List ℕ) → List (Option Word) → List (Option Word)
line_then [] later = None ∷ later
line_then (w ∷ ws) later = Some (word_of w) ∷ line_then ws later

abbrev pub said_by : Lines → List (Option Word)
said_by [] = []
said_by (line ∷ lines) = line_then line (said_by lines)

abbrev pub IsSaid : tokens.Token → Option Word → Type 0
IsSaid (token.Word p w) (Some v) = w ≡ v
IsSaid (token.LineEnd p) None = Unit {0}
IsSaid _ _ = ⊥

-- the tokens say this; the end of the last line may be missing
abbrev pub AreSaid : List Listed → List (Option Word) → Type 0
AreSaid [] [] = Unit {0}
AreSaid [] (None ∷ []) = Unit {0}
AreSaid [] _ = ⊥
AreSaid (t ∷ ts) [] = ⊥
AreSaid (t ∷ ts) (s ∷ ss) = IsSaid t.0 s × AreSaid ts ss

token_said : (t : tokens.Token) → is_inside t ≡ true → IsSaid t (said t)
token_said t h = search rules

module _ (later : List (Option Word)) (ended : AreSaid [] later) where
  tokens_said : (ts : List Listed) → list_all (λ t. is_inside t.0) ts ≡ true
      → AreSaid ts (all_said ts ++ later)
  tokens_said [] h = ended
  tokens_said (t ∷ ts) h =
      let r = both (is_inside t.0) (list_all (λ t. is_inside t.0) ts) h in
      (token_said t.0 r.0, tokens_said ts r.1)

line_then_is : (line : List (List ℕ)) (later : List (Option Word))
    → line_said line ++ later ≡ line_then line later
line_then_is [] later = refl
line_then_is (w ∷ ws) later = ap (λ t. Some (word_of w) ∷ t) (line_then_is ws later)

said_by_is : (lines : Lines) → flat_map line_said lines ≡ said_by lines
said_by_is [] = refl
said_by_is (line ∷ lines) = search (rules, line_said, line_then_is, (said_by_is lines))

-- the tokens of a text are the words of its lines
pub text_lines : (bytes : List ℕ)
    → AreSaid (listing_of (input_of bytes)).tokens (said_by (word_lines bytes))
text_lines bytes = grind (arith, listing_says, said_by_is, by)
  where
    by : (ts : List Listed) → list_all (λ t. is_inside t.0) ts ≡ true
        → (all_said ts ≡ text_said bytes) ⊎ (all_said ts ++ None ∷ [] ≡ text_said bytes)
        → AreSaid ts (text_said bytes)
    by ts h (inl e) = subst (AreSaid ts) (append_none (all_said ts) ∙ e) (tokens_said [] tt ts h)
      where
        append_none : (xs : List (Option Word)) → xs ++ [] ≡ xs
        append_none xs = search (rules, arith)
    by ts h (inr e) = subst (AreSaid ts) e (tokens_said (None ∷ []) tt ts h)

-- lines without words have none
pub filled_words : (lines : Lines) → all_words (filled_lines lines) ≡ all_words lines
filled_words [] = refl
filled_words ([] ∷ lines) = filled_words lines
filled_words ((w ∷ ws) ∷ lines) = ap (λ rest. (w ∷ ws) ++ rest) (filled_words lines)

-- ---- Spelling

-- what a literal's number is
pub record IsLiteralNumber (w : List ℕ) (n : Number) (l : Literal) : Type 0 where
  pub text : w ≡ literal_text l
  pub is : variable l ≡ n.size
  pub some : 1 ≤ n.size
  pub within : n.size ≤ 268435455

-- what is known of a number within the limits of a literal's
limited : (n x l : ℕ) → then_some (nat_le 1 n && nat_le n 268435455) x ≡ Some l
    → (1 ≤ n) × (n ≤ 268435455) × (x ≡ l)
limited n x l e = search rules

pub literal_spelled : (w : List ℕ) (n : Number) (l : Literal) → word_of w ≡ words.Number n
    → number_literal n ≡ Some l → IsLiteralNumber w n l
literal_spelled w n l is e =
    let r = limited n.size (cond n.is_negative (2 * n.size + 1) (2 * n.size)) l e in
    let spelled = number_spelled w n.is_negative n.size (omega (arith, r.1)) is in
    grind (arith, nat_tests)

-- the only number within the limit that names no literal
pub zero_spelled : (w : List ℕ) (n : Number) → word_of w ≡ words.Number n → n.size ≤ 268435455
    → number_literal n ≡ None → w ≡ codes "0"
zero_spelled w n is high e =
    let spelled = number_spelled w n.is_negative n.size (omega (arith, high)) is in
    grind (arith, decimal_digit, nat_tests)
