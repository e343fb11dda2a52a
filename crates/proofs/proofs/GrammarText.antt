-- The steps of a text by its words alone, in whatever format.
use Rattle.cnf_base.proofs.GrammarLemmas.{IsSpelled, listing_says, listing_words, number_text, said}
use Rattle.cnf_base.proofs.PrintLemmas.{Begins, IsPlain, along_from_one, both, end_of_line}
use Rattle.cnf_base.proofs.PrintLemmas.{end_of_line-next, first_word, line_from, next_line}
use Rattle.cnf_base.proofs.PrintLemmas.{next_word, past, past_from_one, zero_plain}
use Rattle.cnf_base.specs.{Code.Text.{col_along, line_after}, Grammar.text_words, Literals.Literal}
use Rattle.cnf_base.specs.{Printing.{input_of, is_literal, literal_text, words_line}, Stream.suffix}
use Rattle.cnf_base.specs.{Text.{Listed, Listing, is_comment, listing_of}, Words.{number, word_of}}
use Rattle.cnf_base.specs.declared.fault.{Fault.Fault, TextFault.TheVariants.LiteralTooLarge}
use Rattle.cnf_base.specs.declared.{input.Ending.TheVariants.End, place.Place.Place}
use Rattle.cnf_base.specs.declared.word.{Number.Number, Word.Word}
use Rattle.proofs.specs.{Code.TextSteps.{steps_at, steps_listed}, Grammar.{IsGrammar, IsTextOf}}
use Rattle.proofs.specs.{Grammar.ReadsAs, Printing.{IsDratStep, ReadProof, printed_steps, read_of}}
use Rattle.proofs.specs.{Reading.{PlacedStep, Proof, with_step}, Steps.{Step, named, with_hint}}
use Rattle.proofs.specs.{Steps.with_literal, TextSteps.{Format, Move, completes, faults, goes}}
use Rattle.proofs.specs.TextSteps.{literal_or_end, literal_or_fault, move_of, steps_among}
use Rattle.proofs.specs.{TextSteps.{steps_from, steps_of}, declared.step_buf.StepKind.StepKind}
use Rattle.{proofs.specs.declared.step_end.StepEnd.StepEnd, std.proofs.Common.{All, Bool, List}}
use Rattle.std.proofs.Common.{None, Option, Some, [], ap, append_assoc, arith, codes, cond, false}
use Rattle.std.proofs.Common.{filter_map, flat_map, fold, length, map, nat_le, option_map, refl}
use Rattle.std.proofs.Common.{rules, suc, sym, true, ℕ, ℤ, ◌*◌, ◌++◌, ◌+◌, ◌-◌, ◌<◌, ◌∙◌, ◌∷◌, ◌≡◌}
use Rattle.std.proofs.{Common.◌≤◌, lemmas.{Fmt.decimal_digit, List.Elements.All-cons}}
use Rattle.std.{proofs.lemmas.List.Folds.list_all-append, specs.List.list_all}
use Rattle.cnf_base.specs.declared.word.Word.TheVariants as words
use Rattle.cnf_base.specs.declared.token.Token.TheVariants as token

-- ---- A proof that was printed as text, as it is read, in whatever format

-- many literals, and many hints
pub with_literals : (s : Step) (ls : List Literal)
    → fold with_literal s ls ≡ record s { lits = s.lits ++ ls }
with_literals s [] = search rules
with_literals s (l ∷ ls) =
    search (rules, with_literal, append_assoc, (with_literals (with_literal s l) ls))

pub with_hints : (s : Step) (hs : List ℤ)
    → fold with_hint s hs ≡ record s { hints = s.hints ++ hs }
with_hints s [] = search rules
with_hints s (h ∷ hs) = search (rules, with_hint, append_assoc, (with_hints (with_hint s h) hs))

-- what is read of a proof, with one more step in front
abbrev pub with_read : Step → ℕ → ReadProof → ReadProof
with_read s offset p = record p { steps = record { step = s; offset = offset } ∷ p.steps }

-- what is read of steps that are printed from an offset on
abbrev pub printed_from : List ℕ → (Step → List ℕ) → ℕ → List Step → ReadProof
printed_from end text offset steps =
    record { steps = printed_steps end text offset steps; fault = None }

-- an addition or a deletion of these literals in DRAT
abbrev pub drat_step : StepKind → List Literal → Step
drat_step kind ls = record { kind = kind; id = 0; lits = ls; hints = [] }

pub drat_step_is : (s : Step) → IsDratStep s → drat_step s.kind s.lits ≡ s
drat_step_is s f = search rules

-- from this offset on a text is read so, wherever that stands
abbrev pub IsRead : {Part : Type 0} → Format Part → ℕ → List ℕ → ReadProof → Type 0
IsRead format n bytes result =
    (p : Place) → 0 < p.col → read_of (steps_at format p (suffix n bytes End)) ≡ result

-- and so it is where so much of a step was read, and these words are left of its line
abbrev pub IsReadOn : {Part : Type 0} → Format Part → Part → Step → ℕ → List (List ℕ) → List ℕ
    → ReadProof → Type 0
IsReadOn format part s n words rest result =
    (p : Place) → 0 < p.col → read_of (steps_from format part s (line_from p n words rest)) ≡ result

module _ {Part : Type 0} (format : Format Part) where
  -- a word of a step, and the last one
  word_goes : (part : Part) (s : Step) {l m : Listing} {p : Place} {w : Word} {n : ℕ} {next : Part}
      {later : Step} → Begins l (token.Word p w) n m → move_of format part s w ≡ goes next later
      → steps_from format part s l ≡ steps_from format next later m
  word_goes part s b e = rw (b.is, e) refl

  pub word_completes : (part : Part) (s : Step) {l m o : Listing} {p q : Place} {w : Word}
      {n f : ℕ} {whole : Step} (end : ℕ) (result : ReadProof) → Begins l (token.Word p w) n m
      → Begins m (token.LineEnd q) f o → move_of format part s w ≡ completes whole → n ≡ end
      → read_of (steps_listed format o) ≡ result
      → read_of (steps_from format part s l) ≡ with_read whole end result
  word_completes part s end result b c e at later = rw (b.is, c.is, e, at) (cc)

  module _ (n : ℕ) (w : List ℕ) (ws : List (List ℕ)) (rest : List ℕ) {result : ReadProof}
      {next : Part} {later : Step} where
    -- a line's first word, and the next one
    pub first_read : is_comment w ≡ false → IsPlain w
        → move_of format format.start (named 0) (word_of w) ≡ goes next later
        → IsReadOn format next later (n + length w) ws rest result
        → IsRead format n (words_line (w ∷ ws) ++ rest) result
    first_read no_comment plain e on p from_one =
        let first = first_word p n w ws rest no_comment plain in
        ap read_of (word_goes format.start (named 0) first e)
        ∙ on (col_along p w) (along_from_one p w from_one)

    pub word_read : (part : Part) (s : Step) → IsPlain w
        → move_of format part s (word_of w) ≡ goes next later
        → IsReadOn format next later (suc n + length w) ws rest result
        → IsReadOn format part s n (w ∷ ws) rest result
    word_read part s plain e on p from_one =
        ap read_of (word_goes part s (next_word p n w ws rest from_one plain) e)
        ∙ on (past p w) (past_from_one p w)

  -- many words that do the same, and then those that follow
  pub list_read : {A : Type 0} (printed : A → List ℕ) (fits : A → Bool) (with : Step → A → Step)
      (part : Part) → ((x : A) → fits x ≡ true → IsPlain (printed x))
      → ((s : Step) (x : A) → fits x ≡ true
      → move_of format part s (word_of (printed x)) ≡ goes part (with s x))
      → (xs : List A) (ws : List (List ℕ)) (rest : List ℕ) (result : ReadProof)
      (s : Step) (n end : ℕ)
      → end_of_line n (map printed xs ++ ws) ≡ end → list_all fits xs ≡ true
      → ((m : ℕ) → end_of_line m ws ≡ end
      → IsReadOn format part (fold with s xs) m ws rest result)
      → IsReadOn format part s n (map printed xs ++ ws) rest result
  list_read printed fits with part plain moves [] ws rest result s n end ends are
      later = later n ends
  list_read printed fits with part plain moves (x ∷ xs) ws rest result s n end ends are later =
      let r = both (fits x) (list_all fits xs) are in
      word_read n (printed x) (map printed xs ++ ws) rest part s (plain x r.0) (moves s x r.0)
      (list_read printed fits with part plain moves xs ws rest result (with s x) _ end
      (end_of_line-next n (printed x) (map printed xs ++ ws) ∙ ends) r.1 later)

  -- the `0` that ends a step and its line, and what follows
  pub zero_read : (part : Part) (s whole : Step) (rest : List ℕ) (result : ReadProof) (n end : ℕ)
      → end_of_line n (codes "0" ∷ []) ≡ end
      → move_of format part s (words.Number (number false 0)) ≡ completes whole
      → IsRead format end rest result
      → IsReadOn format part s n (codes "0" ∷ []) rest (with_read whole (end - 1) result)
  zero_read part s whole rest result n end ends move later p from_one =
      let q : Place = past p (codes "0") in
      let zero = next_word p n (codes "0") [] rest from_one zero_plain in
      let feed : suc (suc n + 1) ≡ end = omega (arith, ends) in
      word_completes part s (end - 1) result zero (next_line q (suc n + 1) rest) move
      (omega (arith, ends)) (rw feed (later (line_after q) (omega arith)))

  -- steps in lines of their own, from a line on, where each such line is read as its step
  pub lines_read : (line : Step → List ℕ) (Fits : Step → Type 0)
      → format.is_start format.start ≡ true
      → ((s : Step) → Fits s → (rest : List ℕ) (result : ReadProof) (n : ℕ)
      → IsRead format (n + length (line s)) rest result
      → IsRead format n (line s ++ rest) (with_read s (n + length (line s) - 1) result))
      → (steps : List Step) (n : ℕ) → All Fits steps
      → IsRead format n (flat_map line steps) (printed_from (codes "\n") line n steps)
  lines_read line Fits starts read [] n are p from_one = search rules
  lines_read line Fits starts read (s ∷ ss) n are p from_one =
      read s (are 0 s (omega arith)) (flat_map line ss) _ n
      (lines_read line Fits starts read ss _ (λ k d l. are (suc k) d (omega arith))) p from_one

-- ---- The steps of a proof without a fault

-- without their places
abbrev pub bare_steps : List PlacedStep → List Step
bare_steps steps = map (λ placed. placed.step) steps

abbrev unless_faulty : Option Fault → List Step → Option (List Step)
unless_faulty None steps = Some steps
unless_faulty (Some f) steps = None

abbrev pub bare : Proof → Option (List Step)
bare p = unless_faulty p.fault (bare_steps p.steps)

pub none_some : (steps : List Step) → None ≡ Some steps → ⊥
none_some steps e = cc

pub bare-ReadsAs : (p : Proof) (steps : List Step) → ReadsAs p steps → bare p ≡ Some steps
bare-ReadsAs p steps reads = cc

pub bare-with_step : (s : Step) (end : StepEnd) (offset : ℕ) (p : Proof)
    → bare (with_step s end offset p) ≡ option_map (λ ss. s ∷ ss) (bare p)
bare-with_step s end offset p = search rules

-- ---- By words

module _ {Part : Type 0} (format : Format Part) where
  abbrev pub on_word : Move Part → (Part → Step → Option (List Step)) → Option (List Step)
  on_word (goes part s) rest = rest part s
  on_word (completes s) rest = option_map (λ ss. s ∷ ss) (rest format.start (named 0))
  on_word (faults f) rest = None

  -- the steps that these words are, where so much of a step was read before; none where they are no
  -- whole steps
  abbrev pub word_steps : Part → Step → List Word → Option (List Step)
  word_steps part s [] = cond (format.is_start part) (Some []) None
  word_steps part s (w ∷ ws) = on_word (move_of format part s w) (λ part s. word_steps part s ws)

  -- tokens are read as their words are
  tokens_bare : (part : Part) (s : Step) (ts : List Listed) (p : Place)
      → bare (steps_among format part s ts p End)
      ≡ word_steps part s (filter_map (λ t. said t.0) ts)
  tokens_bare part s [] p = search rules
  tokens_bare part s (t ∷ ts) p =
      let later = λ (part : Part) (s : Step). tokens_bare part s ts p in
      grind (arith, bare-with_step, move_of)

  -- a text is read as its words are
  pub text_bare : (bytes : List ℕ) → bare (steps_of format (input_of bytes))
      ≡ word_steps format.start (named 0) (map word_of (text_words bytes))
  text_bare bytes =
      let tokens = (listing_of (input_of bytes)).tokens in
      let end = (listing_says bytes).ending in
      let all = tokens_bare format.start (named 0) tokens (listing_of (input_of bytes)).end in
      rw (end, all, listing_words bytes)

-- ---- Both ways

-- how the steps of a format are spelled: what is known of a whole step, and its words; and by the
-- part, what is known of the step so far, and its words
pub record Spelling (Part : Type 0) : Type 1 where
  pub IsStep : Step → Type 0
  pub whole : Step → List (List ℕ)
  pub Fits : Part → Step → Type 0
  pub so_far : Part → Step → List (List ℕ)

-- a word is the next one of those that are spelled
abbrev pub Spells : {Part : Type 0} → Spelling Part → Part → Step → List ℕ → Move Part → Type 0
Spells g part s run (goes next t) = g.Fits next t × (g.so_far next t ≡ g.so_far part s ++ run ∷ [])
Spells g part s run (completes t) = g.IsStep t × (g.whole t ≡ g.so_far part s ++ run ∷ [])
Spells g part s run (faults f) = Unit {0}

pub record IsSpelling {Part : Type 0} (format : Format Part) (g : Spelling Part) : Type 0 where
  pub begins : g.Fits format.start (named 0)
  pub none : g.so_far format.start (named 0) ≡ []
  pub starts : format.is_start format.start ≡ true
  pub ends : (part : Part) (s : Step) → g.Fits part s → format.is_start part ≡ true
      → g.so_far part s ≡ []
  pub moves : (part : Part) (s : Step) (run : List ℕ) → g.Fits part s
      → Spells g part s run (move_of format part s (word_of run))
  pub reads : (s : Step) → g.IsStep s → (rest : List (List ℕ))
      → word_steps format format.start (named 0) (map word_of (g.whole s ++ rest))
      ≡ option_map (λ ss. s ∷ ss) (word_steps format format.start (named 0) (map word_of rest))

module _ {Part : Type 0} (format : Format Part) (g : Spelling Part) (is : IsSpelling format g) where
  -- words that are read after those of the step so far
  abbrev AreSpelled : Part → Step → List (List ℕ) → List Step → Type 0
  AreSpelled part s runs steps =
      All g.IsStep steps × (g.so_far part s ++ runs ≡ flat_map g.whole steps)

  words_spelled : (runs : List (List ℕ)) (part : Part) (s : Step) (steps : List Step)
      → g.Fits part s
      → word_steps format part s (map word_of runs) ≡ Some steps → AreSpelled part s runs steps
  words_spelled [] part s steps fits e = search rules
  words_spelled (run ∷ runs) part s steps fits e =
      by (move_of format part s (word_of run)) (is.moves part s run fits) (words_spelled runs) e
    where
      IsSo : Type 0
      IsSo = (part : Part) (s : Step) (steps : List Step) → g.Fits part s
          → word_steps format part s (map word_of runs) ≡ Some steps → AreSpelled part s runs steps

      onto : (before : List (List ℕ)) → before ≡ g.so_far part s ++ run ∷ []
          → g.so_far part s ++ run ∷ runs ≡ before ++ runs
      onto before e = grind (arith, append_assoc)

      completed : (t : Step) → g.IsStep t → g.whole t ≡ g.so_far part s ++ run ∷ [] → IsSo
          → (later : Option (List Step))
          → word_steps format format.start (named 0) (map word_of runs) ≡ later
          → option_map (λ ss. t ∷ ss) later ≡ Some steps → AreSpelled part s (run ∷ runs) steps
      completed t step words later None is_none e = absurd (none_some steps e)
      completed t step words later (Some ss) is_some e =
          let same : t ∷ ss ≡ steps = cc in
          let r = later format.start (named 0) ss is.begins is_some in grind (arith, All-cons, onto)

      by : (m : Move Part) → Spells g part s run m → IsSo
          → on_word format m (λ part s. word_steps format part s (map word_of runs)) ≡ Some steps
          → AreSpelled part s (run ∷ runs) steps
      by (goes next t) m later e = let r = later next t steps m.0 e in grind (arith, onto)
      by (completes t) m later e = grind (arith, completed, named)
      by (faults f) m later e = absurd (none_some steps e)

  -- and the words of steps are read
  words_read : (steps : List Step) → All g.IsStep steps
      → word_steps format format.start (named 0) (map word_of (flat_map g.whole steps)) ≡ Some steps
  words_read [] are = ap (λ v. cond v (Some []) None) is.starts
  words_read (s ∷ ss) are =
      let later = words_read ss (λ k d l. are (suc k) d (omega arith)) in
      cc (is.reads s (are 0 s (omega arith)) (flat_map g.whole ss))

  -- so a text is read as steps exactly where its words are theirs
  pub text_both_ways : IsGrammar (steps_of format) (IsTextOf g.IsStep g.whole)
  text_both_ways = record {
    read_is_written = λ bytes steps reads.
        let read = sym (text_bare format bytes)
        ∙ bare-ReadsAs (steps_of format (input_of bytes)) steps reads in
        let r = words_spelled (text_words bytes) format.start (named 0) steps is.begins read in
        record { within = r.0; words = cc };
    written_is_read = λ bytes steps written.
        let words = written.words in let all = words_read steps written.within in
        let bare = text_bare format bytes in grind arith;
  }

-- ---- What several formats have

-- one more that passes a test
pub all_more : {A : Type 0} (test : A → Bool) (xs : List A) (x : A) → list_all test xs ≡ true
    → test x ≡ true → list_all test (xs ++ x ∷ []) ≡ true
all_more test xs x are is = search (rules, list_all-append)

-- many words that do the same
pub list_words : {Part : Type 0} (format : Format Part) {A : Type 0} (printed : A → List ℕ)
    (fits : A → Bool) (with : Step → A → Step) (part : Part) → ((s : Step) (x : A) → fits x ≡ true
    → move_of format part s (word_of (printed x)) ≡ goes part (with s x))
    → (xs : List A) (runs : List (List ℕ)) (s : Step) → list_all fits xs ≡ true
    → word_steps format part s (map word_of (map printed xs ++ runs))
    ≡ word_steps format part (fold with s xs) (map word_of runs)
list_words format printed fits with part moves [] runs s are = refl
list_words format printed fits with part moves (x ∷ xs) runs s are =
    let r = both (fits x) (list_all fits xs) are in
    let later = list_words format printed fits with part moves xs runs (with s x) r.1 in
    cc (moves s x r.0)

-- the literal of a number within the limit
literal_is : (is_negative : Bool) (size : ℕ) → 1 ≤ size → size ≤ 268435455
    → (is_literal 268435455 (cond is_negative (2 * size + 1) (2 * size)) ≡ true)
    × (number_text is_negative size ≡ literal_text (cond is_negative (2 * size + 1) (2 * size)))
literal_is is_negative size h h2 = grind arith

-- the number 0
pub zero_text : (is_negative : Bool) (size : ℕ) (run : List ℕ) → run ≡ number_text is_negative size
    → size ≡ 0 → (is_negative ≡ true → ⊥) → run ≡ codes "0"
zero_text is_negative size run h h2 h3 = search (rules, decimal_digit)

-- what a number does where a literal stands: it is too large, it is the text of a literal, or it is
-- the `0`
pub literal_cases : {Part : Type 0} (P : Move Part → Type 0) (part : Part)
    (ended : Step → Move Part) (s : Step) (n : Number) (run : List ℕ)
    → IsSpelled (words.Number n) run → P (faults LiteralTooLarge)
    → ((l : Literal) → is_literal 268435455 l ≡ true → run ≡ literal_text l
    → P (goes part (with_literal s l)))
    → (run ≡ codes "0" → P (ended s)) → P (literal_or_fault part ended s n)
literal_cases P part ended s n run spelled large taken zero =
    search (rules, nat_le, literal_or_end, literal_is, zero_text, faults)
