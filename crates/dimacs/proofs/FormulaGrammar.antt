-- A formula's text, as its grammar has it.
use Rattle.cnf_base.proofs.GrammarLemmas.{cnf_spelled, listing_says, number_spelled, p_spelled}
use Rattle.cnf_base.{proofs.PrintLemmas.{both, count_word}, specs.Grammar.word_lines}
use Rattle.cnf_base.specs.{Literals.{Clause, Literal, variable}, Printing.{input_of, is_literal}}
use Rattle.cnf_base.specs.{Printing.{literal_text, literal_words}, Text.{Listed, Listing}}
use Rattle.cnf_base.specs.{Text.listing_of, Words.{number, number_literal, word_of}}
use Rattle.cnf_base.specs.declared.fault.{Fault.Fault, TextFault.{TextFault, TheVariants.BadToken}}
use Rattle.cnf_base.specs.declared.fault.TextFault.TheVariants.{LiteralOutOfRange, NumberTooLarge}
use Rattle.cnf_base.specs.declared.{fault.TextFault.TheVariants.TooManyClauses, input.Ending.Ending}
use Rattle.cnf_base.specs.declared.{input.Ending.TheVariants.End, place.Place.Place, word.Word.Word}
use Rattle.dimacs.proofs.{FormulaPrinting.judged_literal, GrammarWords.{AreSaid, IsSaid, Lines}}
use Rattle.dimacs.proofs.GrammarWords.{and_so, filled_words, line_then, literal_spelled, said_by}
use Rattle.dimacs.proofs.GrammarWords.{some_parts, text_lines, went_on, zero_spelled}
use Rattle.dimacs.{proofs.HeaderLemmas.after_p, specs.Formula.{Body, Formula, body_among}}
use Rattle.dimacs.specs.Formula.{body_at_end, body_of, count, fixed, formula_of, formula_with}
use Rattle.dimacs.specs.Formula.{header_of, is_cnf, is_p, judged, line_end, part}
use Rattle.dimacs.specs.Grammar.{FormulaIsGrammar, FormulaText, all_words, filled_lines}
use Rattle.dimacs.specs.{Printing.{IsFormula, header_words}, declared.header.Header.Header}
use Rattle.std.proofs.Common.{Bool, Err, List, None, Ok, Option, Result, Some, [], ap, append_assoc}
use Rattle.std.proofs.Common.{arith, codes, cond, false, if◌then◌else◌, length, map, nat_le, refl}
use Rattle.std.proofs.Common.{rules, subst, sym, true, ℕ, ◌++◌, ◌+◌, ◌∙◌, ◌∷◌, ◌≡◌, ◌≤◌}
use Rattle.std.proofs.lemmas.{Bool.Decides.nat_tests, List.{map-append, Folds.list_all-append}}
use Rattle.std.specs.{Fmt.decimal, List.{flat_map, list_all}}
use Rattle.cnf_base.specs.declared.word.Word.TheVariants as words
use Rattle.cnf_base.specs.declared.token.Token as tokens
use Rattle.cnf_base.specs.declared.token.Token.TheVariants as token

-- ---- The clauses, where places and faults don't matter

-- the clauses where there is no fault
abbrev faultless : Option Fault → List Clause → Option (List Clause)
faultless None clauses = Some clauses
faultless (Some f) clauses = None

abbrev clean : Body → Option (List Clause)
clean b = faultless b.fault b.clauses

abbrev words_at_end : Header → ℕ → List Literal → Option (List Clause)
words_at_end h complete [] = if nat_le h.clauses complete then Some [] else None
words_at_end h complete (l ∷ ls) = None

abbrev first_clause : Clause → Option (List Clause) → Option (List Clause)
first_clause c None = None
first_clause c (Some cs) = Some (c ∷ cs)

abbrev on_judged : ℕ → List Literal → Result (Option Literal) TextFault
    → (ℕ → List Literal → Option (List Clause)) → Option (List Clause)
on_judged complete literals (Ok (Some l)) rest = rest complete (literals ++ l ∷ [])
on_judged complete literals (Ok None) rest = first_clause literals (rest (complete + 1) [])
on_judged complete literals (Err f) rest = None

-- the clauses that words are, after so many complete ones, with these literals of a clause at hand
abbrev clauses_in : Header → ℕ → List Literal → List (List ℕ) → Option (List Clause)
clauses_in h complete literals [] = words_at_end h complete literals
clauses_in h complete literals (w ∷ ws) =
    on_judged complete literals (judged h complete (word_of w))
    (λ complete literals. clauses_in h complete literals ws)

-- ---- What the tokens say

at_end : (h : Header) (k : ℕ) (acc : List Literal) (p : Place) → clean (body_at_end h k acc p End)
    ≡ words_at_end h k acc
at_end h k acc p = search rules

module _ (h : Header) (k : ℕ) (acc : List Literal) (ts : List Listed) (end : Place) (offset : ℕ)
    (g : ℕ → List Literal → Option (List Clause))
    (same : (k : ℕ) (acc : List Literal) → clean (body_among h k acc ts end End) ≡ g k acc) where
  on_word : (t : tokens.Token) (v : Word) → IsSaid t (Some v)
      → clean (body_among h k acc ((t, offset) ∷ ts) end End) ≡ on_judged k acc (judged h k v) g
  on_word t v h = grind arith

  on_line_end : (t : tokens.Token) → IsSaid t None
      → clean (body_among h k acc ((t, offset) ∷ ts) end End) ≡ g k acc
  on_line_end t h = search rules

module _ (h : Header) (p : Place) where
  nothing_said : (k : ℕ) (acc : List Literal) (ts : List Listed) → AreSaid ts []
      → clean (body_among h k acc ts p End) ≡ words_at_end h k acc
  nothing_said k acc [] s = at_end h k acc p
  nothing_said k acc (t ∷ ts) s = absurd s

  -- the clauses of a line's words and of the lines after it
  line_clauses : (ts : List Listed) (line : List (List ℕ)) (lines : Lines) (k : ℕ)
      (acc : List Literal) → AreSaid ts (line_then line (said_by lines))
      → clean (body_among h k acc ts p End) ≡ clauses_in h k acc (line ++ all_words lines)
  line_clauses [] [] [] k acc s = at_end h k acc p
  line_clauses [] [] ([] ∷ lines) k acc s = absurd s
  line_clauses [] [] ((w ∷ ws) ∷ lines) k acc s = absurd s
  line_clauses [] (w ∷ ws) lines k acc s = absurd s
  line_clauses (t ∷ ts) [] [] k acc s = search (rules, on_line_end, nothing_said)
  line_clauses (t ∷ ts) [] (line ∷ lines) k acc s =
      search (rules, on_line_end, (line_clauses ts line lines k acc s.1))
  line_clauses (t ∷ ts) (w ∷ ws) lines k acc s = on_word h k acc ts p t.1
      (λ k acc. clauses_in h k acc (ws ++ all_words lines))
      (λ k acc. line_clauses ts ws lines k acc s.1) t.0 (word_of w) s.0

  lines_clauses : (ts : List Listed) (lines : Lines) → AreSaid ts (said_by lines)
      → clean (body_among h 0 [] ts p End) ≡ clauses_in h 0 [] (all_words lines)
  lines_clauses ts [] s = nothing_said 0 [] ts s
  lines_clauses ts (line ∷ lines) s = line_clauses ts line lines 0 [] s

-- ---- The header, where places and faults don't matter

-- a line's next word, and what follows it in the line
abbrev word_in : List (List ℕ) → Option (Word × List (List ℕ))
word_in [] = None
word_in (w ∷ ws) = Some (word_of w, ws)

abbrev fixed_in : (Word → Bool) → List (List ℕ) → Option (List (List ℕ))
fixed_in test line = and_so (word_in line) (λ w. if test w.0 then Some w.1 else None)

abbrev number_in : ℕ → Word → Option ℕ
number_in limit (words.Number n) =
    if n.is_negative then None else (if nat_le n.size limit then Some n.size else None)
number_in limit _ = None

abbrev count_in : ℕ → List (List ℕ) → Option (ℕ × List (List ℕ))
count_in limit line = and_so (word_in line) (λ w. and_so (number_in limit w.0) (λ n. Some (n, w.1)))

abbrev end_in : List (List ℕ) → Option (Unit {0})
end_in [] = Some tt
end_in (w ∷ ws) = None

-- the header that a line is, and the lines after it
abbrev line_header : Lines → List (List ℕ) → Option (Header × Lines)
line_header lines line = and_so (fixed_in is_p line) (λ line. and_so (fixed_in is_cnf line)
    (λ line. and_so (count_in 268435455 line) (λ vars. and_so (count_in 4294967295 vars.1)
    (λ clauses. and_so (end_in clauses.1)
    (λ u. Some (record { vars = vars.0; clauses = clauses.0 }, lines))))))

abbrev lines_header : Lines → Option (Header × Lines)
lines_header [] = None
lines_header ([] ∷ lines) = lines_header lines
lines_header ((w ∷ ws) ∷ lines) = line_header lines (w ∷ ws)

-- ---- What the tokens say of it

-- both went wrong, or both went on, and so
abbrev Agree : {A B E : Type 0} → (A → B → Type 0) → Result A E → Option B → Type 0
Agree R (Ok a) (Some b) = R a b
Agree R (Err f) None = Unit {0}
Agree R (Ok a) None = ⊥
Agree R (Err f) (Some b) = ⊥

agree_part : {A B C D : Type 0} (R : A → B → Type 0) (S : C → D → Type 0)
    (test : Listing → Result A Fault) (l : Listing) (y : Option B)
    (f : A → Result C (Fault × List ℕ)) (g : B → Option D) → Agree R (test l) y
    → ((a : A) (b : B) → R a b → Agree S (f a) (g b)) → Agree S (part test l f) (and_so y g)
agree_part R S test l y f g h h2 = search rules

-- a text in the midst of a line, and after one
record IsIn (lines : Lines) (l : Listing) (line : List (List ℕ)) : Type 0 where
  pub said : AreSaid l.tokens (line_then line (said_by lines))
  pub ending : l.ending ≡ End

record IsAfter (lines : Lines) (l : Listing) : Type 0 where
  pub said : AreSaid l.tokens (said_by lines)
  pub ending : l.ending ≡ End

abbrev listing : List Listed → Place → Ending → Listing
listing ts p e = record { tokens = ts; end = p; ending = e }

module _ (lines : Lines) (l : Listing) (line : List (List ℕ)) (is : IsIn lines l line) where
  fixed_agrees : (test : Word → Bool) → Agree (IsIn lines) (fixed test l) (fixed_in test line)
  fixed_agrees test = search rules

  count_agrees : (limit : ℕ)
      → Agree (λ x y. (x.0 ≡ y.0) × IsIn lines x.1 y.1) (count limit l) (count_in limit line)
  count_agrees limit = search rules

end_agrees : (lines : Lines) (ts : List Listed) (p : Place) (e : Ending) (line : List (List ℕ)) → e
    ≡ End → AreSaid ts (line_then line (said_by lines))
    → Agree (λ m u. IsAfter lines m) (line_end (listing ts p e)) (end_in line)
end_agrees lines ts p e line h h2 = search rules

-- the header, and the text after it
abbrev IsHead : Header × Listing → Header × Lines → Type 0
IsHead x y = (x.0 ≡ y.0) × IsAfter y.1 x.1

line_agrees : (lines : Lines) (l : Listing) (line : List (List ℕ)) → IsIn lines l line
    → Agree IsHead (part (fixed is_p) l after_p) (line_header lines line)
line_agrees lines l line is =
    agree_part _ _ (fixed is_p) l (fixed_in is_p line) _ _ (fixed_agrees lines l line is is_p)
    (λ l line is.
    agree_part _ _ (fixed is_cnf) l (fixed_in is_cnf line) _ _ (fixed_agrees lines l line is is_cnf)
    (λ l line is.
    agree_part _ _ (count 268435455) l (count_in 268435455 line) _ _
    (count_agrees lines l line is 268435455) (λ v w r.
    agree_part _ _ (count 4294967295) v.1 (count_in 4294967295 w.1) _ _
    (count_agrees lines v.1 w.1 r.1 4294967295) (λ c d s.
    grind (arith, agree_part, end_agrees)))))

header_agrees : (lines : Lines) (ts : List Listed) (p : Place) → AreSaid ts (said_by lines)
    → Agree IsHead (header_of (listing ts p End)) (lines_header lines)
header_agrees [] [] p s = tt
header_agrees [] (t ∷ ts) p s = absurd s
header_agrees ([] ∷ []) [] p s = tt
header_agrees ([] ∷ [] ∷ lines) [] p s = absurd s
header_agrees ([] ∷ (w ∷ ws) ∷ lines) [] p s = absurd s
header_agrees ([] ∷ lines) (t ∷ ts) p s = search (rules, (header_agrees lines ts p s.1))
header_agrees ((w ∷ ws) ∷ lines) [] p s = absurd s
header_agrees ((w ∷ ws) ∷ lines) ((token.Word q v, n) ∷ ts) p s =
    let here : Listing = listing ((token.Word q v, n) ∷ ts) p End in
    line_agrees lines here (w ∷ ws) (record { said = s; ending = refl })
header_agrees ((w ∷ ws) ∷ lines) ((token.LineEnd q, n) ∷ ts) p s = absurd s.0
header_agrees ((w ∷ ws) ∷ lines) ((token.End q, n) ∷ ts) p s = absurd s.0

-- ---- The header's spelling

fixed_spelled : (test : Word → Bool) (line rest : List (List ℕ)) → fixed_in test line ≡ Some rest
    → (w : List ℕ) × (line ≡ w ∷ rest) × (test (word_of w) ≡ true)
fixed_spelled test [] rest e = absurd (let bad : None ≡ Some rest = e in cc)
fixed_spelled test (w ∷ ws) rest e = search rules

p_tested : (v : Word) → is_p v ≡ true → v ≡ words.P
p_tested v h = search rules

cnf_tested : (v : Word) → is_cnf v ≡ true → v ≡ words.Cnf
cnf_tested v h = search rules

number_tested : (limit : ℕ) (v : Word) (n : ℕ) → number_in limit v ≡ Some n
    → (v ≡ words.Number (number false n)) × (n ≤ limit)
number_tested limit v n h = search rules

count_spelled : (limit : ℕ) (line : List (List ℕ)) (n : ℕ) (rest : List (List ℕ))
    → limit ≤ 9223372036854775807
    → count_in limit line ≡ Some (n, rest) → (line ≡ decimal n ∷ rest) × (n ≤ limit)
count_spelled limit [] n rest small e = absurd (let bad : None ≡ Some (n, rest) = e in cc)
count_spelled limit (w ∷ ws) n rest small e =
    let r = went_on (number_in limit (word_of w)) (λ n. Some (n, ws)) (n, rest) e in
    let t = number_tested limit (word_of w) r.0 r.1 in
    grind (arith, number_spelled w false r.0, some_parts (r.0, ws) (n, rest) r.2)

end_spelled : (line : List (List ℕ)) (u : Unit {0}) → end_in line ≡ Some u → line ≡ []
end_spelled line u h = search rules

-- within the limits
record IsHeader (h : Header) : Type 0 where
  pub vars : h.vars ≤ 268435455
  pub clauses : h.clauses ≤ 4294967295

line_spelled : (lines : Lines) (line : List (List ℕ)) (h : Header) (rest : Lines)
    → line_header lines line ≡ Some (h, rest) → (line ≡ header_words h) × IsHeader h
    × (rest ≡ lines)
line_spelled lines line h rest e0 =
    let a = went_on (fixed_in is_p line) _ (h, rest) e0 in
    let b = went_on (fixed_in is_cnf a.0) _ (h, rest) a.2 in
    let c = went_on (count_in 268435455 b.0) _ (h, rest) b.2 in
    let d = went_on (count_in 4294967295 c.0.1) _ (h, rest) c.2 in
    let z = went_on (end_in d.0.1) _ (h, rest) d.2 in let p = fixed_spelled is_p line a.0 a.1 in
    let q = fixed_spelled is_cnf a.0 b.0 b.1 in
    let v = count_spelled 268435455 b.0 c.0.0 c.0.1 (omega arith) c.1 in
    let n = count_spelled 4294967295 c.0.1 d.0.0 d.0.1 (omega arith) d.1 in
    let none = end_spelled d.0.1 z.0 z.1 in
    let first = p_spelled p.0 (p_tested (word_of p.0) p.2) in
    let second = cnf_spelled q.0 (cnf_tested (word_of q.0) q.2) in
    let same = some_parts (record { vars = c.0.0; clauses = d.0.0 }, lines) (h, rest) z.2 in
    grind arith

-- the lines begin with the header's words
header_spelled : (lines : Lines) (h : Header) (rest : Lines) → lines_header lines ≡ Some (h, rest)
    → (filled_lines lines ≡ header_words h ∷ filled_lines rest) × IsHeader h
header_spelled [] h rest e = absurd (let bad : None ≡ Some (h, rest) = e in cc)
header_spelled ([] ∷ lines) h rest e = header_spelled lines h rest e
header_spelled ((w ∷ ws) ∷ lines) h rest e = grind (arith, line_spelled lines (w ∷ ws) h rest e)

-- and the other way round
count_taken : (limit n : ℕ) (rest : List (List ℕ)) → n ≤ limit → limit ≤ 9223372036854775807
    → count_in limit (decimal n ∷ rest) ≡ Some (n, rest)
count_taken limit n rest low small = search (rules, count_word, nat_le, and_so)

line_taken : (lines : Lines) (h : Header) → IsHeader h → line_header lines (header_words h)
    ≡ Some (h, lines)
line_taken lines h is = search (rules, and_so, count_taken)

header_taken : (lines : Lines) (h : Header) (body : Lines)
    → filled_lines lines ≡ header_words h ∷ body → IsHeader h
    → (rest : Lines) × (lines_header lines ≡ Some (h, rest)) × (filled_lines rest ≡ body)
header_taken [] h body e is = absurd (let bad : [] ≡ header_words h ∷ body = e in cc)
header_taken ([] ∷ lines) h body e is = header_taken lines h body e is
header_taken ((w ∷ ws) ∷ lines) h body e is = search (rules, line_taken)

-- ---- The clauses' spelling

module _ (h : Header) (small : h.vars ≤ 268435455) where
  -- a word that was judged well, where a clause is missing
  record IsJudged (k : ℕ) (w text : List ℕ) (Fact : Type 0) : Type 0 where
    pub missing : nat_le h.clauses k ≡ false
    pub is : w ≡ text
    pub fact : Fact

  conditions : {A : Type 0} (a b c : Bool) (x y : A) (f0 f1 f2 : TextFault)
      → cond a (cond b (Err f0) (cond c (Ok x) (Err f1))) (Err f2) ≡ Ok y
      → (a ≡ true) × (b ≡ false) × (c ≡ true) × (x ≡ y)
  conditions a b c x y f0 f1 f2 h = search rules

  literal_judged : (k : ℕ) (w : List ℕ) (l : Literal) → judged h k (word_of w) ≡ Ok (Some l)
      → IsJudged k w (literal_text l) (is_literal h.vars l ≡ true)
  literal_judged k w l e = by (word_of w) refl e
    where
      by : (v : Word) → word_of w ≡ v → judged h k v ≡ Ok (Some l)
          → IsJudged k w (literal_text l) (is_literal h.vars l ≡ true)
      by (words.Number n) is e =
          let r = conditions (nat_le n.size 268435455) (nat_le h.clauses k) (nat_le n.size h.vars)
          (number_literal n) (Some l) TooManyClauses LiteralOutOfRange NumberTooLarge e in
          let s = literal_spelled w n l is r.3 in let same = s.is in let some = s.some in
          let within = r.2 in let low : nat_le 1 (variable l) ≡ true = grind (arith, nat_tests) in
          let high : nat_le (variable l) h.vars ≡ true = ap (λ x. nat_le x h.vars) same ∙ within in
          grind arith
      by _ is e = absurd (let bad : Err BadToken ≡ Ok (Some l) = e in cc)

  zero_judged : (k : ℕ) (w : List ℕ) → judged h k (word_of w) ≡ Ok None
      → IsJudged k w (codes "0") (Unit {0})
  zero_judged k w e = by (word_of w) refl e
    where
      other : Result (Option Literal) TextFault
      other = Err BadToken

      by : (v : Word) → word_of w ≡ v → judged h k v ≡ Ok None → IsJudged k w (codes "0") (Unit {0})
      by (words.Number n) is e =
          let r = conditions (nat_le n.size 268435455) (nat_le h.clauses k) (nat_le n.size h.vars)
          (number_literal n) None TooManyClauses LiteralOutOfRange NumberTooLarge e in
          let test = r.0 in let high : n.size ≤ 268435455 = grind (arith, nat_tests) in
          record { missing = r.1; is = zero_spelled w n is high r.3; fact = tt }
      by _ is e = absurd (let bad : other ≡ Ok None = e in cc)

  -- the clauses that words are, with these literals of the first one before them
  record AreClauses (k : ℕ) (acc : List Literal) (ws : List (List ℕ))
      (cs : List Clause) : Type 0 where
    pub words : map literal_text acc ++ ws ≡ flat_map literal_words cs
    pub count : h.clauses ≡ k + length cs
    pub literals : list_all (list_all (is_literal h.vars)) cs ≡ true

  clauses_spelled : (ws : List (List ℕ)) (k : ℕ) (acc : List Literal) (cs : List Clause)
      → clauses_in h k acc ws ≡ Some cs → k ≤ h.clauses → list_all (is_literal h.vars) acc ≡ true
      → AreClauses k acc ws cs
  clauses_spelled [] k (l ∷ ls) cs e low are = absurd (let bad : None ≡ Some cs = e in cc)
  clauses_spelled [] k [] cs e low are = search rules
  clauses_spelled (w ∷ ws) k acc cs e low are =
      by (judged h k (word_of w)) refl e (λ l. clauses_spelled ws k (acc ++ l ∷ []) cs)
      (clauses_spelled ws (k + 1) [])
    where
      by : (r : Result (Option Literal) TextFault) → judged h k (word_of w) ≡ r
          → on_judged k acc r (λ k acc. clauses_in h k acc ws) ≡ Some cs
          → ((l : Literal) → clauses_in h k (acc ++ l ∷ []) ws ≡ Some cs → k ≤ h.clauses
          → list_all (is_literal h.vars) (acc ++ l ∷ []) ≡ true
          → AreClauses k (acc ++ l ∷ []) ws cs)
          → ((more : List Clause) → clauses_in h (k + 1) [] ws ≡ Some more → k + 1 ≤ h.clauses
          → true ≡ true → AreClauses (k + 1) [] ws more) → AreClauses k acc (w ∷ ws) cs
      by r h h2 h3 h4 =
          grind (arith, literal_judged, list_all-append, append_assoc, map-append, zero_judged)

  -- and the other way round: a clause, and the others
  clause_taken : (ls acc : List Literal) (k : ℕ) (ws : List (List ℕ)) (cs : List Clause)
      → nat_le h.clauses k ≡ false → list_all (is_literal h.vars) ls ≡ true
      → clauses_in h (k + 1) [] ws ≡ Some cs
      → clauses_in h k acc (literal_words ls ++ ws) ≡ Some ((acc ++ ls) ∷ cs)
  clause_taken [] acc k ws cs missing are later = search rules
  clause_taken (l ∷ ls) acc k ws cs missing are later =
      let r = both (is_literal h.vars l) (list_all (is_literal h.vars) ls) are in
      rw (judged_literal h small k l missing r.0)
      (grind (arith, append_assoc, clause_taken ls (acc ++ l ∷ []) k ws cs missing r.1 later))

  clauses_taken : (cs : List Clause) (k : ℕ) → h.clauses ≡ k + length cs
      → list_all (list_all (is_literal h.vars)) cs ≡ true
      → clauses_in h k [] (flat_map literal_words cs) ≡ Some cs
  clauses_taken [] k count are = search rules
  clauses_taken (c ∷ cs) k count are = grind (
    arith,
    nat_tests,
    both,
    clauses_taken cs (k + 1),
    clause_taken c [] k (flat_map literal_words cs) cs,
  )

-- ---- A whole formula

abbrev faultless_formula : Header → List Clause → Formula
faultless_formula h clauses = record { header = Some h; clauses = clauses; fault = None }

text_clauses : (h : Header) (l : Listing) (lines : Lines) → IsAfter lines l
    → clean (body_of h 0 [] l) ≡ clauses_in h 0 [] (all_words lines)
text_clauses h l lines is = search (rules, lines_clauses)

formula_words : (h : Header) (clauses : List Clause)
    (r : Result (Header × Listing) (Fault × List ℕ))
    (o : Option (Header × Lines)) → Agree IsHead r o → formula_with r ≡ faultless_formula h clauses
    → (rest : Lines) × (o ≡ Some (h, rest)) × (clauses_in h 0 [] (all_words rest) ≡ Some clauses)
formula_words h clauses (Ok x) (Some y) a e =
    let head : Some x.0 ≡ Some h = ap (λ f. f.header) e in let same : x.0 ≡ h = cc in
    let body = text_clauses h x.1 y.1 a.1 in
    (y.1, grind (arith, a.0), grind (arith, body, e))
formula_words h clauses r o h2 h3 = search (rules, arith)

formula_taken : (h : Header) (clauses : List Clause)
    (r : Result (Header × Listing) (Fault × List ℕ)) (o : Option (Header × Lines)) (rest : Lines)
    → Agree IsHead r o → o ≡ Some (h, rest) → clauses_in h 0 [] (all_words rest) ≡ Some clauses
    → formula_with r ≡ faultless_formula h clauses
formula_taken h clauses (Ok x) (Some y) rest a o e =
    grind (arith, some_parts y (h, rest) o, text_clauses h x.1 y.1)
formula_taken h clauses r o rest h2 h3 h4 = grind (arith, rest)

text_header : (bytes : List ℕ)
    → Agree IsHead (header_of (listing_of (input_of bytes))) (lines_header (word_lines bytes))
text_header bytes =
    let l : Listing = listing_of (input_of bytes) in
    subst (λ e. Agree IsHead (header_of (listing l.tokens l.end e))
    (lines_header (word_lines bytes))) (sym (listing_says bytes).ending)
    (header_agrees (word_lines bytes) l.tokens l.end (text_lines bytes))

read_is_written : (bytes : List ℕ) (h : Header) (clauses : List Clause)
    → formula_of (input_of bytes) ≡ faultless_formula h clauses
    → IsFormula h clauses × FormulaText (word_lines bytes) h clauses
read_is_written bytes h clauses e =
    let r = formula_words h clauses (header_of (listing_of (input_of bytes)))
    (lines_header (word_lines bytes)) (text_header bytes) e in
    let s = header_spelled (word_lines bytes) h r.0 r.1 in
    let c = clauses_spelled h s.1.vars (all_words r.0) 0 [] clauses r.2 (omega arith) refl in
    grind (arith, filled_words)

written_is_read : (bytes : List ℕ) (h : Header) (clauses : List Clause)
    → IsFormula h clauses → FormulaText (word_lines bytes) h clauses
    → formula_of (input_of bytes) ≡ faultless_formula h clauses
written_is_read bytes h clauses f text =
    let s = header_taken (word_lines bytes) h text.body text.header_first
    (record { vars = f.vars; clauses = f.most }) in
    let ws : all_words s.0 ≡ flat_map literal_words clauses =
    sym (filled_words s.0) ∙ ap all_words s.2 ∙ text.clauses_after in
    let count = f.count in
    formula_taken h clauses (header_of (listing_of (input_of bytes)))
    (lines_header (word_lines bytes)) s.0 (text_header bytes) s.1
    (ap (clauses_in h 0 []) ws ∙ clauses_taken h f.vars clauses 0 (omega arith) f.literals)

-- a formula is read exactly where its text is the grammar's
pub formula_grammar : FormulaIsGrammar
formula_grammar = record { read_is_written = read_is_written; written_is_read = written_is_read }
