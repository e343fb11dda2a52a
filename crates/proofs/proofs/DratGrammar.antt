-- The steps of a DRAT text, both ways.
use Rattle.cnf_base.{proofs.GrammarLemmas.{IsSpelled, word_spelled}, specs.declared.word.Word.Word}
use Rattle.cnf_base.proofs.PrintLemmas.{both, end_of_line, end_of_line-first, first_word}
use Rattle.cnf_base.proofs.PrintLemmas.{fixed_plain, literal_no_comment, literal_plain}
use Rattle.cnf_base.proofs.PrintLemmas.{literal_taken, literal_word, next_line, zero_plain}
use Rattle.cnf_base.specs.{Code.Text.{col_along, line_after}, Literals.Literal, Words.word_of}
use Rattle.cnf_base.specs.Printing.{input_of, is_literal, literal_text, literal_words, words_line}
use Rattle.cnf_base.specs.declared.{fault.TextFault.TheVariants.LiteralTooLarge, place.Place.Place}
use Rattle.proofs.proofs.GrammarText.{IsRead, IsReadOn, IsSpelling, Spelling, Spells, all_more}
use Rattle.proofs.proofs.GrammarText.{drat_step, drat_step_is, first_read, lines_read, list_read}
use Rattle.proofs.proofs.GrammarText.{list_words, literal_cases, text_both_ways, with_literals}
use Rattle.proofs.proofs.GrammarText.{with_read, word_completes, word_steps, zero_read}
use Rattle.proofs.specs.Drat.{DratSpot, at_start, drat, drat_steps, in_literals}
use Rattle.proofs.specs.{Grammar.DratIsGrammar, Steps.{Step, named, with_literal}}
use Rattle.proofs.specs.Printing.{IsDratStep, ReadProof, drat_line, drat_words, proof_of, read_of}
use Rattle.proofs.specs.TextSteps.{completes, faults, goes, literal_or_end, move_of}
use Rattle.proofs.specs.declared.step_buf.StepKind.{StepKind, TheVariants.{Add, Delete}}
use Rattle.std.proofs.Common.{All, List, [], ap, append_assoc, arith, codes, flat_map, fold, length}
use Rattle.std.proofs.Common.{map, option_map, refl, rules, suc, true, ℕ, ◌++◌, ◌+◌, ◌-◌, ◌∙◌, ◌∷◌}
use Rattle.std.{proofs.{Common.◌≡◌, lemmas.List.map-append}, specs.List.list_all}
use Rattle.cnf_base.specs.declared.word.Word.TheVariants as words

-- ---- A DRAT proof that was printed as text, as it is read

-- a literal's word
pub literal_move : (part : DratSpot) (s : Step) (l : Literal) → is_literal 268435455 l ≡ true
    → move_of drat part s (word_of (literal_text l)) ≡ goes in_literals (with_literal s l)
literal_move part s l is =
    let taken = literal_taken 268435455 l (omega arith) is (literal_or_end in_literals completes s)
    (faults LiteralTooLarge) in cc (literal_word 268435455 l (omega arith) is)

module _ (rest : List ℕ) (result : ReadProof) (end : ℕ) (later : IsRead drat end rest result) where
  -- literals after a word of a step, and the step's end
  literals_read : (ls : List Literal) (s : Step) (n : ℕ) → end_of_line n (literal_words ls) ≡ end
      → list_all (is_literal 268435455) ls ≡ true → IsReadOn drat in_literals s n (literal_words ls)
      rest (with_read (fold with_literal s ls) (end - 1) result)
  literals_read ls s n ends are =
      list_read drat literal_text (is_literal 268435455) with_literal in_literals
      (λ l is. literal_plain 268435455 l (omega arith) is) (literal_move in_literals)
      ls (codes "0" ∷ []) rest _ s n end ends are (λ m zero_ends.
      zero_read drat in_literals _ (fold with_literal s ls) rest result m end zero_ends refl later)

  -- a step's line
  step_read : (kind : StepKind) (ls : List Literal) (n : ℕ)
      → n + length (words_line (drat_words kind ls)) ≡ end
      → list_all (is_literal 268435455) ls ≡ true
      → IsRead drat n (words_line (drat_words kind ls) ++ rest)
      (with_read (drat_step kind ls) (end - 1) result)
  step_read Delete ls n ends are p from_one =
      let ends' = end_of_line-first n (codes "d") (literal_words ls) ∙ ends in
      first_read drat n (codes "d") (literal_words ls) rest refl (fixed_plain 100 [] refl) refl
      (literals_read ls (drat_step Delete []) _ ends' are) p from_one
      ∙ ap (λ s. with_read s (end - 1) result) (with_literals (drat_step Delete []) ls)
  step_read Add [] n ends are p from_one =
      let q : Place = col_along p (codes "0") in
      let zero = first_word p n (codes "0") [] rest refl zero_plain in
      let feed : suc (n + 1) ≡ end = omega (arith, ends) in
      word_completes drat at_start (named 0) (end - 1) result zero (next_line q (n + 1) rest) refl
      (omega (arith, ends)) (rw feed (later (line_after q) (omega arith)))
  step_read Add (l ∷ ls) n ends are p from_one =
      let r = both (is_literal 268435455 l) (list_all (is_literal 268435455) ls) are in
      let ends' = end_of_line-first n (literal_text l) (literal_words ls) ∙ ends in
      first_read drat n (literal_text l) (literal_words ls) rest
      (literal_no_comment 268435455 l (omega arith) r.0)
      (literal_plain 268435455 l (omega arith) r.0)
      (literal_move at_start (named 0) l r.0)
      (literals_read ls (drat_step Add (l ∷ [])) _ ends' r.1) p from_one
      ∙ ap (λ s. with_read s (end - 1) result) (with_literals (drat_step Add (l ∷ [])) ls)

-- a printed proof is read back
pub drat_read : (steps : List Step) → All IsDratStep steps
    → read_of (drat_steps (input_of (flat_map drat_line steps))) ≡ proof_of (codes "\n")
    drat_line steps
drat_read steps are = lines_read drat drat_line IsDratStep
    refl (λ s f rest result n later p from_one.
    let read = step_read rest result _ later s.kind s.lits n refl f.literals p from_one in
    cc (drat_step_is s f)) steps 0 are (record { line = 1; col = 1 }) (omega arith)

-- ---- The words of a step so far

abbrev front : StepKind → List (List ℕ)
front Add = []
front Delete = codes "d" ∷ []

record Fits (part : DratSpot) (s : Step) : Type 0 where
  begins : part ≡ at_start → s ≡ named 0
  id : s.id ≡ 0
  hints : s.hints ≡ []
  literals : list_all (is_literal 268435455) s.lits ≡ true

abbrev so_far : DratSpot → Step → List (List ℕ)
so_far part s = front s.kind ++ map literal_text s.lits

abbrev spelling : Spelling DratSpot
spelling = record {
  IsStep = IsDratStep;
  whole = λ s. drat_words s.kind s.lits;
  Fits = Fits;
  so_far = so_far;
}

word_moves : (part : DratSpot) (s : Step) (run : List ℕ) → Fits part s → (w : Word)
    → IsSpelled w run
    → Spells spelling part s run (move_of drat part s w)
word_moves part s run fits (words.Number n) spelled =
    literal_cases (Spells spelling part s run) in_literals completes s n run spelled tt
    (λ l is text. search (rules, in_literals, at_start, all_more, map-append, append_assoc))
    (λ text. search rules)
word_moves part s run fits words.D spelled = search rules
word_moves part s run fits _ spelled = tt

-- ---- The words of a whole step

literal_words_read : (ls : List Literal) (rest : List (List ℕ)) (s : Step)
    → list_all (is_literal 268435455) ls ≡ true
    → word_steps drat in_literals s (map word_of (literal_words ls ++ rest))
    ≡ option_map (λ ss. fold with_literal s ls ∷ ss)
    (word_steps drat at_start (named 0) (map word_of rest))
literal_words_read ls rest s are =
    let words = append_assoc (map literal_text ls) (codes "0" ∷ []) rest in
    cc (list_words drat literal_text (is_literal 268435455) with_literal in_literals
    (literal_move in_literals) ls (codes "0" ∷ rest) s are)

words_read : (kind : StepKind) (ls : List Literal) (rest : List (List ℕ))
    → list_all (is_literal 268435455) ls ≡ true
    → word_steps drat at_start (named 0) (map word_of (drat_words kind ls ++ rest))
    ≡ option_map (λ ss. drat_step kind ls ∷ ss)
    (word_steps drat at_start (named 0) (map word_of rest))
words_read Delete ls rest are =
    simp (literal_words_read, drat_step, word_steps, named, with_literals)
words_read Add [] rest are = refl
words_read Add (l ∷ ls) rest are =
    let r = both (is_literal 268435455 l) (list_all (is_literal 268435455) ls) are in
    let first_move = literal_move at_start (named 0) l r.0 in
    simp (first_move, literal_words_read ls rest (drat_step Add (l ∷ [])) r.1, with_literals)

is_spelling : IsSpelling drat spelling
is_spelling = grind (arith, word_moves, word_spelled, words_read, drat_step_is)

pub drat_both_ways : DratIsGrammar
drat_both_ways = text_both_ways drat spelling is_spelling
