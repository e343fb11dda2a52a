-- The steps of an LRAT text, both ways.
use Rattle.cnf_base.proofs.GrammarLemmas.{IsSpelled, number_text, word_spelled}
use Rattle.cnf_base.proofs.PrintLemmas.{IsPlain, both, decimal_no_comment, decimal_plain}
use Rattle.cnf_base.proofs.PrintLemmas.{decimal_word, end_of_line, end_of_line-first}
use Rattle.cnf_base.proofs.PrintLemmas.{end_of_line-next, fixed_plain, literal_plain, literal_taken}
use Rattle.cnf_base.proofs.PrintLemmas.{literal_word, minus_plain, minus_word, zero_plain}
use Rattle.cnf_base.specs.{Literals.Literal, Words.{number, word_of}, declared.word.Word.Word}
use Rattle.cnf_base.specs.Printing.{input_of, is_literal, literal_text, literal_words, words_line}
use Rattle.cnf_base.specs.declared.{fault.TextFault.TheVariants.LiteralTooLarge, word.Number.Number}
use Rattle.proofs.proofs.GrammarText.{IsRead, IsReadOn, IsSpelling, Spelling, Spells, all_more}
use Rattle.proofs.proofs.GrammarText.{first_read, lines_read, list_read, list_words, literal_cases}
use Rattle.proofs.proofs.GrammarText.{on_word, text_both_ways, with_hints, with_literals, with_read}
use Rattle.proofs.proofs.GrammarText.{word_read, word_steps, zero_read, zero_text}
use Rattle.{proofs.specs.Grammar.LratIsGrammar, std.specs.{Fmt.signed_decimal, List.list_all}}
use Rattle.proofs.specs.Lrat.{LratSpot, after_identifier, at_identifier, deleted, hint, in_deletion}
use Rattle.proofs.specs.Lrat.{in_hints, in_literals, literal, lrat, lrat_steps}
use Rattle.proofs.specs.Printing.{IsLratStep, ReadProof, hint_words, lrat_line, lrat_words}
use Rattle.{proofs.specs.Printing.{proof_of, read_of}, std.proofs.lemmas.Bool.Decides.nat_tests}
use Rattle.proofs.specs.Steps.{Step, is_hint, is_small, named, with_hint, with_literal}
use Rattle.proofs.specs.TextSteps.{Move, completes, faults, goes, literal_or_end, move_of}
use Rattle.proofs.specs.declared.step_buf.StepKind.{StepKind, TheVariants.{Add, Delete}}
use Rattle.std.proofs.Common.{All, Bool, List, Option, [], ap, append-nil, append_assoc, arith}
use Rattle.std.proofs.Common.{codes, cond, decimal, false, flat_map, fold, length, map, nat_le}
use Rattle.std.proofs.Common.{neg_ℤ, negsuc, option_map, pos, refl, rules, suc, sym, true, ℕ, ℤ}
use Rattle.std.proofs.{Common.{◌&&◌, ◌++◌, ◌+◌, ◌-◌, ◌∙◌, ◌∷◌, ◌≡◌, ◌≤◌}, lemmas.List.map-append}
use Rattle.cnf_base.specs.declared.word.Word.TheVariants as words

-- ---- An LRAT proof that was printed, as it is read

-- ---- Words

-- a step's identifier
pub identifier_move : (s : Step) (id : ℕ) → 1 ≤ id → is_small id ≡ true
    → move_of lrat at_identifier s (word_of (decimal id)) ≡ goes after_identifier (named id)
identifier_move s id some small = search (rules, nat_le, move_of, lrat, at_identifier, decimal_word)

-- a literal's word
pub first_literal_move : (s : Step) (l : Literal) → is_literal 268435455 l ≡ true
    → move_of lrat after_identifier s (word_of (literal_text l))
    ≡ goes in_literals (with_literal s l)
first_literal_move s l is =
    let ends = literal_or_end in_literals (goes in_hints) s in
    let taken = literal_taken 268435455 l (omega arith) is ends (faults LiteralTooLarge) in
    cc (literal_word 268435455 l (omega arith) is)

pub literal_move : (s : Step) (l : Literal) → is_literal 268435455 l ≡ true
    → move_of lrat in_literals s (word_of (literal_text l)) ≡ goes in_literals (with_literal s l)
literal_move s l is =
    let ends = literal_or_end in_literals (goes in_hints) s in
    let taken = literal_taken 268435455 l (omega arith) is ends (faults LiteralTooLarge) in
    cc (literal_word 268435455 l (omega arith) is)

-- an identifier within the limit
id_range : (k : ℕ) → (nat_le 1 k && is_small k) ≡ true → (1 ≤ k) × (k ≤ 9223372036854775807)
id_range k h = grind (arith, nat_tests)

id_tests : (k : ℕ) → (nat_le 1 k && is_small k) ≡ true → (nat_le k 0 ≡ false) × (is_small k ≡ true)
id_tests k h = let r = id_range k h in (grind (arith, nat_tests), grind (arith, nat_tests))

-- where hints stand, or identifiers that are deleted
abbrev pub hint_part : StepKind → LratSpot
hint_part Add = in_hints
hint_part Delete = in_deletion

hint_plain : (kind : StepKind) (h : ℤ) → is_hint kind h ≡ true → IsPlain (signed_decimal h)
hint_plain Add (pos k) is = let r = id_range k is in decimal_plain k (omega arith)
hint_plain Add (negsuc k) is = let r = id_range (suc k) is in minus_plain (suc k) (omega arith)
hint_plain Delete (pos k) is = let r = id_range k is in decimal_plain k (omega arith)
hint_plain Delete (negsuc k) is = absurd (let bad : false ≡ true = is in cc)

pub hint_move : (kind : StepKind) (s : Step) (h : ℤ) → is_hint kind h ≡ true
    → move_of lrat (hint_part kind) s (word_of (signed_decimal h)) ≡ goes (hint_part kind)
    (with_hint s h)
hint_move kind s h h2 = search (rules, arith, id_range, id_tests, decimal_word, minus_word)

-- the `0` after them
pub hint_zero : (kind : StepKind) (s : Step)
    → move_of lrat (hint_part kind) s (words.Number (number false 0)) ≡ completes s
hint_zero kind s = search rules

-- ---- Lines

-- a step
abbrev pub step_of : StepKind → ℕ → List Literal → List ℤ → Step
step_of kind id ls hs = record { kind = kind; id = id; lits = ls; hints = hs }

module _ (rest : List ℕ) (result : ReadProof) (end : ℕ) (later : IsRead lrat end rest result) where
  -- hints, or identifiers that are deleted, after a word of a step, and the step's end
  hints_read : (kind : StepKind) (id : ℕ) (ls : List Literal) (hs : List ℤ) (n : ℕ)
      → end_of_line n (hint_words hs) ≡ end → list_all (is_hint kind) hs ≡ true
      → IsReadOn lrat (hint_part kind) (step_of kind id ls []) n (hint_words hs) rest
      (with_read (step_of kind id ls hs) (end - 1) result)
  hints_read kind id ls hs n ends are p from_one =
      list_read lrat signed_decimal (is_hint kind) with_hint (hint_part kind) (hint_plain kind)
      (hint_move kind) hs (codes "0" ∷ []) rest _ (step_of kind id ls []) n end ends are (λ m ends'.
      zero_read lrat (hint_part kind) _ (fold with_hint (step_of kind id ls []) hs)
      rest result m end
      ends' (hint_zero kind _) later) p from_one
      ∙ ap (λ s. with_read s (end - 1) result) (with_hints (step_of kind id ls []) hs)

  -- what follows the identifier of an addition
  addition_read : (id : ℕ) (ls : List Literal) (hs : List ℤ) (n : ℕ)
      → end_of_line n (literal_words ls ++ hint_words hs) ≡ end
      → list_all (is_literal 268435455) ls ≡ true → list_all (is_hint Add) hs ≡ true
      → IsReadOn lrat after_identifier (named id) n (literal_words ls ++ hint_words hs) rest
      (with_read (step_of Add id ls hs) (end - 1) result)
  addition_read id [] hs n ends are hints =
      let ends' = end_of_line-next n (codes "0") (hint_words hs) ∙ ends in
      word_read lrat n (codes "0") (hint_words hs) rest after_identifier (named id) zero_plain refl
      (hints_read Add id [] hs _ ends' hints)
  addition_read id (l ∷ ls) hs n ends are hints =
      let r = both (is_literal 268435455 l) (list_all (is_literal 268435455) ls) are in
      let plain = λ (l : Literal) (is : is_literal 268435455 l ≡ true).
      literal_plain 268435455 l (omega arith) is in
      let words = append_assoc (map literal_text ls) (codes "0" ∷ []) (hint_words hs) in
      let first : Step = step_of Add id (l ∷ []) [] in let m : ℕ =
      suc n + length (literal_text l) in
      let ends' = end_of_line-next n (literal_text l) (literal_words ls ++ hint_words hs) ∙ ends in
      word_read lrat n (literal_text l) (literal_words ls ++ hint_words hs) rest after_identifier
      (named id) (plain l r.0) (first_literal_move (named id) l r.0) (rw words
      (list_read lrat literal_text (is_literal 268435455) with_literal in_literals
      plain literal_move
      ls (codes "0" ∷ hint_words hs) rest _ first m end (ap (end_of_line m) (sym words) ∙ ends') r.1
      (λ k zero_ends. rw (with_literals first ls)
      (word_read lrat k (codes "0") (hint_words hs) rest in_literals (step_of Add id (l ∷ ls) [])
      zero_plain refl (hints_read Add id (l ∷ ls) hs _
      (end_of_line-next k (codes "0") (hint_words hs) ∙ zero_ends) hints)))))

  -- a step's line
  step_read : (kind : StepKind) (id : ℕ) (ls : List Literal) (hs : List ℤ) (n : ℕ)
      → n + length (words_line (lrat_words kind id ls hs)) ≡ end → 1 ≤ id → is_small id ≡ true
      → list_all (is_literal 268435455) ls ≡ true → (kind ≡ Delete → ls ≡ [])
      → list_all (is_hint kind) hs ≡ true
      → IsRead lrat n (words_line (lrat_words kind id ls hs) ++ rest)
      (with_read (step_of kind id ls hs) (end - 1) result)
  step_read Add id ls hs n ends some small are empty hints =
      let most : id ≤ 9223372036854775807 = grind (arith, nat_tests) in
      let ends' = end_of_line-first n (decimal id) (literal_words ls ++ hint_words hs) ∙ ends in
      first_read lrat n (decimal id) (literal_words ls ++ hint_words hs) rest
      (decimal_no_comment id (omega arith)) (decimal_plain id (omega arith))
      (identifier_move (named 0) id some small) (addition_read id ls hs _ ends' are hints)
  step_read Delete id ls hs n ends some small are empty hints =
      let most : id ≤ 9223372036854775807 = grind (arith, nat_tests) in
      let m : ℕ = n + length (decimal id) in
      let ends' = end_of_line-next m (codes "d") (hint_words hs)
      ∙ end_of_line-first n (decimal id) (codes "d" ∷ hint_words hs) ∙ ends in
      rw (empty refl) (first_read lrat n (decimal id) (codes "d" ∷ hint_words hs) rest
      (decimal_no_comment id (omega arith)) (decimal_plain id (omega arith))
      (identifier_move (named 0) id some small)
      (word_read lrat m (codes "d") (hint_words hs) rest after_identifier (named id)
      (fixed_plain 100 [] refl) refl (hints_read Delete id [] hs _ ends' hints)))

-- a printed proof is read back
pub lrat_read : (steps : List Step) → All IsLratStep steps
    → read_of (lrat_steps (input_of (flat_map lrat_line steps))) ≡ proof_of (codes "\n")
    lrat_line steps
lrat_read steps are = lines_read lrat lrat_line IsLratStep refl (λ s f rest result n later.
    step_read rest result _ later s.kind s.id s.lits s.hints n refl f.some f.small f.literals
    f.deletion f.hints) steps 0 are (record { line = 1; col = 1 }) (omega arith)

-- ---- The words of a step so far

record IsNamed (s : Step) : Type 0 where
  some : 1 ≤ s.id
  small : is_small s.id ≡ true

named_still : (s : Step) (l : Literal) → IsNamed s → IsNamed (with_literal s l)
named_still s l named = record { some = named.some; small = named.small }

abbrev are_literals : List Literal → Bool
are_literals ls = list_all (is_literal 268435455) ls

abbrev Fits : LratSpot → Step → Type 0
Fits at_identifier s = s ≡ named 0
Fits after_identifier s = IsNamed s × (s ≡ named s.id)
Fits in_literals s = IsNamed s × (s.kind ≡ Add) × (are_literals s.lits ≡ true) × (s.hints ≡ [])
Fits in_hints s = IsNamed s × (s.kind ≡ Add) × (are_literals s.lits ≡ true)
    × (list_all (is_hint Add) s.hints ≡ true)
Fits in_deletion s = IsNamed s × (s.kind ≡ Delete) × (s.lits ≡ [])
    × (list_all (is_hint Delete) s.hints ≡ true)

abbrev so_far : LratSpot → Step → List (List ℕ)
so_far at_identifier s = []
so_far after_identifier s = decimal s.id ∷ []
so_far in_literals s = decimal s.id ∷ map literal_text s.lits
so_far in_hints s = decimal s.id ∷ literal_words s.lits ++ map signed_decimal s.hints
so_far in_deletion s = decimal s.id ∷ codes "d" ∷ map signed_decimal s.hints

abbrev spelling : Spelling LratSpot
spelling = record {
  IsStep = IsLratStep;
  whole = λ s. lrat_words s.kind s.id s.lits s.hints;
  Fits = Fits;
  so_far = so_far;
}

other : {kind : StepKind} → kind ≡ Add → kind ≡ Delete → ⊥
other e f = cc

inside : false ≡ true → ⊥
inside e = cc

-- what a number does there is spelled by its text
abbrev IsNumberSpelled : LratSpot → (Step → Number → Move LratSpot) → Type 0
IsNumberSpelled part does =
    (s : Step) (run : List ℕ) (n : Number) → Fits part s → IsSpelled (words.Number n) run
    → Spells spelling part s run (does s n)

-- a literal just after the identifier, or the `0` there
first_spelled : IsNumberSpelled after_identifier literal
first_spelled s run n fits spelled =
    literal_cases (Spells spelling after_identifier s run) in_literals (goes in_hints) s n run
    spelled tt (λ l is text. grind (arith, named_still)) (λ text. grind (arith, is_hint))

-- a literal after another one, or the `0` there
literal_spelled : IsNumberSpelled in_literals literal
literal_spelled s run n fits spelled =
    literal_cases (Spells spelling in_literals s run) in_literals (goes in_hints) s n run spelled
    tt (λ l is text. grind (arith, named_still, all_more, map-append))
    (λ text. grind (arith, is_hint, append-nil))

-- the hint of a number within the limit
hint_is : (is_negative : Bool) (size : ℕ) → 1 ≤ size → is_small size ≡ true
    → (is_hint Add (cond is_negative (neg_ℤ (pos size)) (pos size)) ≡ true)
    × (number_text is_negative size
    ≡ signed_decimal (cond is_negative (neg_ℤ (pos size)) (pos size)))
hint_is is_negative size h h2 = grind arith

-- a hint, or the `0` that ends the step
hint_spelled : IsNumberSpelled in_hints hint
hint_spelled s run n fits spelled =
    grind (arith, append_assoc, other, zero_text, hint_is, all_more, map-append)

-- an identifier that is deleted, or the `0` that ends the step
deleted_spelled : IsNumberSpelled in_deletion deleted
deleted_spelled s run n fits spelled = grind (arith, zero_text, all_more, map-append)

number_spelled : (part : LratSpot) (s : Step) (run : List ℕ) → Fits part s → (n : Number)
    → IsSpelled (words.Number n) run
    → Spells spelling part s run (move_of lrat part s (words.Number n))
number_spelled at_identifier s run fits n spelled = search rules
number_spelled part s run h n h2 =
    search (rules, arith, first_spelled, literal_spelled, hint_spelled, deleted_spelled)

word_moves : (part : LratSpot) (s : Step) (run : List ℕ) → Fits part s → (w : Word)
    → IsSpelled w run
    → Spells spelling part s run (move_of lrat part s w)
word_moves part s run fits (words.Number n) spelled = number_spelled part s run fits n spelled
word_moves part s run fits words.D spelled = search rules
word_moves part s run fits _ spelled = tt

-- ---- The words of a whole step

module _ (rest : List (List ℕ)) where
  abbrev later : Option (List Step)
  later = word_steps lrat at_identifier (named 0) (map word_of rest)

  -- hints, or identifiers that are deleted, and the step's end
  hint_words_read : (kind : StepKind) (hs : List ℤ) (s : Step) → list_all (is_hint kind) hs ≡ true
      → word_steps lrat (hint_part kind) s (map word_of (hint_words hs ++ rest))
      ≡ option_map (λ ss. fold with_hint s hs ∷ ss) later
  hint_words_read kind hs s are =
      let words = append_assoc (map signed_decimal hs) (codes "0" ∷ []) rest in
      let read = list_words lrat signed_decimal (is_hint kind) with_hint (hint_part kind)
      (hint_move kind) hs (codes "0" ∷ rest) s are in
      rw (words, read, hint_zero kind (fold with_hint s hs))

  -- an addition after its identifier
  addition_words_read : (id : ℕ) (ls : List Literal) (hs : List ℤ) → are_literals ls ≡ true
      → list_all (is_hint Add) hs ≡ true → word_steps lrat after_identifier (named id)
      (map word_of ((literal_words ls ++ hint_words hs) ++ rest))
      ≡ option_map (λ ss. step_of Add id ls hs ∷ ss) later
  addition_words_read id [] hs are hints = hint_words_read Add hs (named id) hints
      ∙ ap (λ s. option_map (λ ss. s ∷ ss) later) (with_hints (named id) hs)
  addition_words_read id (l ∷ ls) hs are hints =
      let r = both (is_literal 268435455 l) (are_literals ls) are in
      let first : Step = step_of Add id (l ∷ []) [] in
      let words = append_assoc (literal_words ls) (hint_words hs) rest
      ∙ append_assoc (map literal_text ls) (codes "0" ∷ []) (hint_words hs ++ rest) in
      let read = list_words lrat literal_text (is_literal 268435455) with_literal in_literals
      literal_move ls (codes "0" ∷ hint_words hs ++ rest) first r.1 in
      let first_move = first_literal_move (named id) l r.0 in
      let hints_are = hint_words_read Add hs (step_of Add id (l ∷ ls) []) hints in
      rw (first_move, words, read, with_literals first ls, hints_are, with_hints)

  words_read : (kind : StepKind) (id : ℕ) (ls : List Literal) (hs : List ℤ) → 1 ≤ id
      → is_small id ≡ true → are_literals ls ≡ true → (kind ≡ Delete → ls ≡ [])
      → list_all (is_hint kind) hs ≡ true
      → word_steps lrat at_identifier (named 0) (map word_of (lrat_words kind id ls hs ++ rest))
      ≡ option_map (λ ss. step_of kind id ls hs ∷ ss) later
  words_read Add id ls hs some small are empty hints =
      simp (on_word, word_steps, hint_words, identifier_move, named, addition_words_read)
  words_read Delete id ls hs some small are empty hints =
      let first_move = identifier_move (named 0) id some small in
      let hints_are = hint_words_read Delete hs (step_of Delete id [] []) hints in
      rw (first_move, hints_are, with_hints, empty refl)

is_spelling : IsSpelling lrat spelling
is_spelling = grind (arith, word_moves, word_spelled, words_read, inside)

pub lrat_both_ways : LratIsGrammar
lrat_both_ways = text_both_ways lrat spelling is_spelling
