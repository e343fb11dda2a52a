-- A formula and a model that were printed are read back, since their lines are the grammar's.
use Rattle.cnf_base.proofs.PrintLemmas.{IsPlain, after_word, both, decimal_plain, fixed_plain}
use Rattle.cnf_base.proofs.PrintLemmas.{literal_no_comment, literal_plain, words_line-cons}
use Rattle.cnf_base.proofs.{PrintLemmas.zero_plain, TextLemmas.{Each-feed, append_nil}}
use Rattle.cnf_base.{proofs.TextLemmas.split-append, specs.Grammar.{is_word, word_lines, words_in}}
use Rattle.cnf_base.specs.{Literals.{Clause, Literal}, Printing.{is_literal, literal_text}}
use Rattle.cnf_base.specs.{Printing.{literal_words, words_line}, Text.{is_comment, is_separator}}
use Rattle.{cnf_base.specs.Text.lines_of, dimacs.proofs.FormulaGrammar.formula_grammar}
use Rattle.dimacs.{proofs.ModelGrammar.model_grammar, specs.Grammar.{all_words, filled_lines}}
use Rattle.dimacs.specs.Printing.{FormulaIsReadBack, ModelIsReadBack, clause_line, formula_text}
use Rattle.dimacs.specs.Printing.{literals_line, model_text, value_line, value_words}
use Rattle.std.proofs.Common.{List, [], ap, append-nil, append_assoc, arith, false, filter}
use Rattle.std.proofs.Common.{flat_map, map, refl, rules, subst, sym, true, ℕ, ◌++◌, ◌==◌, ◌∙◌, ◌∷◌}
use Rattle.std.proofs.{Common.{◌≡◌, ◌≤◌}, lemmas.List.{map-append, Folds.list_all-append}}
use Rattle.std.specs.{Fmt.decimal, List.{concat, list_all, slice_split}, Prelude.codes}

-- ---- A line of words

data ArePlain : List (List ℕ) → Type 0 where
  no_words : ArePlain []
  one_more : (w : List ℕ) (ws : List (List ℕ)) → IsPlain w → ArePlain ws → ArePlain (w ∷ ws)

-- the words of a line after its first, each with the space before it
abbrev spaced : List (List ℕ) → List ℕ
spaced [] = []
spaced (w ∷ ws) = 32 ∷ w ++ spaced ws

after_line : (ws : List (List ℕ)) (rest : List ℕ) → ArePlain ws
    → lines_of (after_word ws rest) ≡ spaced ws ∷ lines_of rest
after_line [] rest plain = refl
after_line (w ∷ ws) rest (one_more _ _ p plain) =
    grind (arith, split-append, after_word, Each-feed, after_line ws rest plain)

split_spaced : (ws : List (List ℕ)) → ArePlain ws → slice_split is_separator (spaced ws) ≡ [] ∷ ws
split_spaced [] plain = refl
split_spaced (w ∷ ws) (one_more _ _ p plain) =
    cc (split-append is_separator w (spaced ws) [] ws p.each (split_spaced ws plain), append_nil w)

split_first : (w : List ℕ) (ws : List (List ℕ)) → IsPlain w → ArePlain ws
    → slice_split is_separator (w ++ spaced ws) ≡ w ∷ ws
split_first w ws p plain = grind (arith, split-append, split_spaced, append_nil)

kept_words : (ws : List (List ℕ)) → ArePlain ws → filter is_word ws ≡ ws
kept_words [] plain = refl
kept_words ([] ∷ ws) (one_more _ _ p plain) = let some = p.some in absurd (omega arith)
kept_words ((b ∷ bs) ∷ ws) (one_more _ _ p plain) = ap (λ x. (b ∷ bs) ∷ x) (kept_words ws plain)

-- a printed line is read as its words
line_words : (w : List ℕ) (ws : List (List ℕ)) (rest : List ℕ) → is_comment w ≡ false → IsPlain w
    → ArePlain ws → word_lines (words_line (w ∷ ws) ++ rest) ≡ (w ∷ ws) ∷ word_lines rest
line_words [] ws rest no_comment p plain = let some = p.some in absurd (omega arith)
line_words (b ∷ bs) ws rest no_comment p plain =
    let w : List ℕ = b ∷ bs in
    let cut : lines_of (words_line (w ∷ ws) ++ rest) ≡ (w ++ spaced ws) ∷ lines_of rest =
    ap lines_of (words_line-cons w ws rest) ∙ split-append (λ b. b == 10) w (after_word ws rest)
    (spaced ws) (lines_of rest) (Each-feed w p.each) (after_line ws rest plain) in
    let words : words_in (w ++ spaced ws) ≡ w ∷ ws = ap (filter is_word) (split_first w ws p plain)
    ∙ kept_words (w ∷ ws) (one_more w ws p plain) in
    rw (cut, no_comment, words) refl

-- ---- Literals

literals_plain : (greatest : ℕ) (ls : List Literal) (last : List (List ℕ)) → greatest ≤ 268435455
    → list_all (is_literal greatest) ls ≡ true → ArePlain last
    → ArePlain (map literal_text ls ++ last)
literals_plain greatest [] last small are plain = plain
literals_plain greatest (l ∷ ls) last small are plain =
    grind (arith, both, one_more, literal_plain, literals_plain greatest ls last)

ended : ArePlain (codes "0" ∷ [])
ended = one_more _ _ zero_plain no_words

-- ---- A formula

clause_words : (greatest : ℕ) (c : Clause) (rest : List ℕ) → greatest ≤ 268435455
    → list_all (is_literal greatest) c ≡ true
    → word_lines (clause_line c ++ rest) ≡ literal_words c ∷ word_lines rest
clause_words greatest [] rest small are = line_words (codes "0") [] rest refl zero_plain no_words
clause_words greatest (l ∷ ls) rest small are =
    grind (arith, both, line_words, literal_no_comment, literal_plain, literals_plain, ended)

clauses_lines : (greatest : ℕ) (clauses : List Clause) → greatest ≤ 268435455
    → list_all (list_all (is_literal greatest)) clauses ≡ true
    → filled_lines (word_lines (flat_map clause_line clauses)) ≡ map literal_words clauses
clauses_lines greatest [] small are = refl
clauses_lines greatest (c ∷ cs) small are =
    let r = both (list_all (is_literal greatest) c) _ are in
    ap filled_lines (clause_words greatest c (flat_map clause_line cs) small r.0)
    ∙ filled_clause c (word_lines (flat_map clause_line cs))
    ∙ ap (λ x. literal_words c ∷ x) (clauses_lines greatest cs small r.1)
  where
    filled_clause : (c : Clause) (lines : List (List (List ℕ)))
        → filled_lines (literal_words c ∷ lines) ≡ literal_words c ∷ filled_lines lines
    filled_clause [] lines = refl
    filled_clause (l ∷ ls) lines = refl

mapped_words : (clauses : List Clause)
    → all_words (map literal_words clauses) ≡ flat_map literal_words clauses
mapped_words [] = refl
mapped_words (c ∷ cs) = ap (λ x. literal_words c ++ x) (mapped_words cs)

pub formula_read : FormulaIsReadBack
formula_read h clauses f =
    let counts : ArePlain (codes "cnf" ∷ decimal h.vars ∷ decimal h.clauses ∷ []) =
    let vars = f.vars in let most = f.most in
    one_more _ _ (fixed_plain 99 (110 ∷ 102 ∷ []) refl)
    (one_more _ _ (decimal_plain h.vars (omega arith))
    (one_more _ _ (decimal_plain h.clauses (omega arith)) no_words)) in
    formula_grammar.written_is_read (formula_text h clauses) h clauses f (record {
      body = map literal_words clauses;
      header_first = search (rules, arith, line_words, fixed_plain, clauses_lines);
      clauses_after = mapped_words clauses;
    })

-- ---- A model

value_words_read : (ws : List (List ℕ)) (rest : List ℕ) → ArePlain ws
    → word_lines (value_line ws ++ rest) ≡ value_words ws ∷ word_lines rest
value_words_read ws rest plain = line_words (codes "v") ws rest refl (fixed_plain 118 [] refl) plain

-- the words of the lines of values
abbrev printed : List (List Literal) → List Literal → List (List (List ℕ))
printed [] last = literal_words last ∷ []
printed (ls ∷ lines) last = map literal_text ls ∷ printed lines last

values_lines : (lines : List (List Literal)) (last : List Literal)
    → list_all (is_literal 268435455) (concat lines ++ last) ≡ true
    → filled_lines (word_lines (flat_map literals_line lines ++ value_line (literal_words last)))
    ≡ map value_words (printed lines last)
values_lines [] last are =
    ap (λ x. filled_lines (word_lines x)) (sym (append_nil (value_line (literal_words last))))
    ∙ ap filled_lines (value_words_read (literal_words last) []
    (literals_plain 268435455 last _ (omega arith) are ended))
values_lines (ls ∷ lines) last are =
    let rest : List ℕ = flat_map literals_line lines ++ value_line (literal_words last) in
    let r = both (list_all (is_literal 268435455) ls) _
    (sym (list_all-append (is_literal 268435455) ls (concat lines ++ last))
    ∙ ap (list_all (is_literal 268435455)) (sym (append_assoc ls (concat lines) last)) ∙ are) in
    ap (λ x. filled_lines (word_lines x)) (append_assoc (literals_line ls) _ _)
    ∙ ap filled_lines (value_words_read (map literal_text ls) rest (subst ArePlain
    (append-nil (map literal_text ls)) (literals_plain 268435455 ls [] (omega arith) r.0 no_words)))
    ∙ ap (λ x. value_words (map literal_text ls) ∷ x) (values_lines lines last r.1)

printed_words : (lines : List (List Literal)) (last : List Literal)
    → all_words (printed lines last) ≡ literal_words (concat lines ++ last)
printed_words [] last = append-nil (literal_words last)
printed_words (ls ∷ lines) last = grind (arith, append_assoc, map-append, printed_words lines last)

pub model_read : ModelIsReadBack
model_read lines last fits =
    model_grammar.written_is_read (model_text lines last) (concat lines ++ last) fits (record {
      before = [];
      after = printed lines last;
      one_status = grind (arith, line_words, fixed_plain, values_lines);
      values = printed_words lines last;
    })
