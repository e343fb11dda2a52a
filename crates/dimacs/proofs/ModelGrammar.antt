-- A solver's output, as the grammar of a claimed model has it.
use Rattle.cnf_base.proofs.GrammarLemmas.{listing_says, s_spelled, satisfiable_spelled, v_spelled}
use Rattle.cnf_base.proofs.{PrintLemmas.{both, literal_taken, literal_word}, TextLemmas.append_nil}
use Rattle.cnf_base.{proofs.SetLemmas.has_tail, specs.Literals.{Literal, complement, has, variable}}
use Rattle.cnf_base.specs.{Grammar.word_lines, declared.{place.Place.Place, word.Word.Word}}
use Rattle.{cnf_base.specs.{Printing.input_of, Text.{Listed, listing_of}}, std.specs.List.list_all}
use Rattle.cnf_base.specs.{Printing.{is_literal, literal_words}, Words.{number_literal, word_of}}
use Rattle.{cnf_base.specs.declared.fault.Fault.Fault, dimacs.proofs.ModelLemmas.IsConsistent-put}
use Rattle.cnf_base.specs.declared.{fault.TextFault.TextFault, input.Ending.TheVariants.End}
use Rattle.dimacs.proofs.GrammarWords.{AreSaid, IsSaid, Lines, and_so, line_then, literal_spelled}
use Rattle.dimacs.proofs.GrammarWords.{said_by, some_parts, text_lines, went_on, zero_spelled}
use Rattle.dimacs.proofs.ModelPrinting.{AreAmong, among_more, no_complement}
use Rattle.dimacs.specs.Claim.{IsConsistent, LinePosition, Said, after_s, after_status, placed}
use Rattle.dimacs.specs.Claim.{at_line_start, claim_among, claim_at_end, claim_of, claim_on_token}
use Rattle.dimacs.specs.Claim.{claim_on_word, in_values, on_end, on_line_end, on_status, on_value}
use Rattle.dimacs.specs.{Formula.and_then, Printing.{IsModel, status_words, value_words}}
use Rattle.dimacs.specs.Grammar.{ModelIsGrammar, ModelText, all_words, filled_lines}
use Rattle.std.proofs.Common.{Bool, Err, List, None, Ok, Option, Result, Some, [], ap, append_assoc}
use Rattle.std.proofs.Common.{ap₂, arith, cond, false, inl, inr, map, nat_le, refl, reverse, rules}
use Rattle.std.proofs.{Common.{sym, true, ℕ, ◌++◌, ◌∙◌, ◌∷◌, ◌≡◌, ◌⊎◌}, lemmas.Grind.common_steps}
use Rattle.std.{proofs.lemmas.Bool.true≢false, specs.Prelude.{codes, if◌then◌else◌}}
use Rattle.std.proofs.lemmas.{Bool.Decides.nat_tests, List.{reverse-append, reverse-reverse}}
use Rattle.std.proofs.lemmas.List.Sorted.{IsPermutation-reverse, list_any-IsPermutation}
use Rattle.cnf_base.specs.declared.word.Word.TheVariants as words
use Rattle.cnf_base.specs.declared.token.Token as tokens

-- ---- What is claimed, where places and faults don't matter

abbrev known : {A E : Type 0} → Result A E → Option A
known (Ok x) = Some x
known (Err f) = None

abbrev claim_says : Said → List (Option Word) → Option (List Literal)
claim_says s [] = and_so (known (on_line_end s)) (λ s. known (claim_at_end s))
claim_says s (Some w ∷ ss) = and_so (known (claim_on_word s w)) (λ s. claim_says s ss)
claim_says s (None ∷ ss) = and_so (known (on_line_end s)) (λ s. claim_says s ss)

abbrev at : LinePosition → Bool → Bool → List Literal → Said
at position has_status is_ended ls =
    record { position = position; has_status = has_status; is_ended = is_ended; listed = ls }

-- ---- What the tokens say

placed_then : {A : Type 0} (q : Place) (r : Result Said TextFault) (f : Said → Result A Fault)
    (g : Said → Option A)
    → ((s : Said) → known (f s) ≡ g s) → known (and_then (placed q r) f) ≡ and_so (known r) g
placed_then q r f g h = search rules

module _ (p : Place) where
  end_said : (s : Said) → known (on_end s p End) ≡ and_so (known (on_line_end s))
      (λ s. known (claim_at_end s))
  end_said s = search rules

  among_said : (ts : List Listed) (ss : List (Option Word)) (s : Said) → AreSaid ts ss
      → known (claim_among s ts p End) ≡ claim_says s ss
  among_said [] [] s is = end_said s
  among_said [] (None ∷ []) s is = search rules
  among_said [] (None ∷ x ∷ ss) s is = absurd is
  among_said [] (Some w ∷ ss) s is = absurd is
  among_said (t ∷ ts) [] s is = absurd is
  among_said (t ∷ ts) (Some v ∷ ss) s is = by t.0 is.0 (λ s. among_said ts ss s is.1)
    where
      by : (k : tokens.Token) → IsSaid k (Some v)
          → ((s : Said) → known (claim_among s ts p End) ≡ claim_says s ss)
          → known (and_then (claim_on_token s k) (λ s. claim_among s ts p End)) ≡ claim_says s
          (Some v ∷ ss)
      by k h h2 = grind (arith, placed_then)
  among_said (t ∷ ts) (None ∷ ss) s is = by t.0 is.0 (λ s. among_said ts ss s is.1)
    where
      by : (k : tokens.Token) → IsSaid k None
          → ((s : Said) → known (claim_among s ts p End) ≡ claim_says s ss)
          → known (and_then (claim_on_token s k) (λ s. claim_among s ts p End)) ≡ claim_says s
          (None ∷ ss)
      by k h h2 = grind (arith, placed_then)

text_claim : (bytes : List ℕ) → known (claim_of (input_of bytes))
    ≡ claim_says (at at_line_start false false []) (said_by (word_lines bytes))
text_claim bytes =
    grind (arith, listing_says bytes, among_said (listing_of (input_of bytes)).end (listing_of (input_of bytes)).tokens (said_by (word_lines bytes)) (at at_line_start false false []) (text_lines bytes))

-- ---- Lines

-- what words after `v`s are: whether the `0` was among them, and the literals, last ones first
abbrev HeardSo : Type 0
HeardSo = Bool × List Literal

abbrev more_listed : Bool → List Literal → Literal → Option HeardSo
more_listed v ls l = if v then None else Some (false, l ∷ ls)

abbrev literal_in : List Literal → Option Literal → Option HeardSo
literal_in ls None = Some (true, ls)
literal_in ls (Some l) = more_listed (has ls (complement l)) ls l

abbrev value_in : Bool → List Literal → Word → Option (HeardSo)
value_in e ls (words.Number n) =
    if nat_le n.size 268435455 then (if e then None else literal_in ls (number_literal n)) else None
value_in e ls _ = None

abbrev values_in : Bool → List Literal → List (List ℕ) → Option (HeardSo)
values_in e ls [] = Some (e, ls)
values_in e ls (w ∷ ws) = and_so (value_in e ls (word_of w)) (λ x. values_in x.0 x.1 ws)

values_append : (ws us : List (List ℕ)) (e : Bool) (ls : List Literal)
    → values_in e ls (ws ++ us) ≡ and_so (values_in e ls ws) (λ x. values_in x.0 x.1 us)
values_append [] us e ls = refl
values_append (w ∷ ws) us e ls = by (value_in e ls (word_of w)) (λ x. values_append ws us x.0 x.1)
  where
    by : (o : Option (HeardSo))
        → ((x : HeardSo) → values_in x.0 x.1 (ws ++ us) ≡ and_so (values_in x.0 x.1 ws)
        (λ x. values_in x.0 x.1 us)) → and_so o (λ x. values_in x.0 x.1 (ws ++ us))
        ≡ and_so (and_so o (λ x. values_in x.0 x.1 ws)) (λ x. values_in x.0 x.1 us)
    by o h = grind arith

module _ (h : Bool) where
  value_said : {A : Type 0} (e : Bool) (ls : List Literal) (w : Word) (f : Said → Option A)
      → and_so (known (on_value (at in_values h e ls) w)) f
      ≡ and_so (value_in e ls w) (λ x. f (at in_values h x.0 x.1))
  value_said e ls w f = search rules

  values_said : (ws : List (List ℕ)) (e : Bool) (ls : List Literal) (later : List (Option Word))
      → claim_says (at in_values h e ls) (line_then ws later)
      ≡ and_so (values_in e ls ws) (λ x. claim_says (at at_line_start h x.0 x.1) later)
  values_said [] e ls later = refl
  values_said (w ∷ ws) e ls later =
      value_said e ls (word_of w) (λ s. claim_says s (line_then ws later))
      ∙ by (value_in e ls (word_of w)) (λ x. values_said ws x.0 x.1 later)
    where
      by : (o : Option (HeardSo))
          → ((x : HeardSo) → claim_says (at in_values h x.0 x.1) (line_then ws later)
          ≡ and_so (values_in x.0 x.1 ws) (λ x. claim_says (at at_line_start h x.0 x.1) later))
          → and_so o (λ x. claim_says (at in_values h x.0 x.1) (line_then ws later))
          ≡ and_so (and_so o (λ x. values_in x.0 x.1 ws))
          (λ x. claim_says (at at_line_start h x.0 x.1) later)
      by o h = grind arith

-- the first line has values, and other lines follow
record IsValueLine (h e : Bool) (ls : List Literal) (w : List ℕ) (ws : List (List ℕ))
    (lines : Lines) (r : List Literal) : Type 0 where
  pub first : w ≡ codes "v"
  pub ended : Bool
  pub listed : List Literal
  pub line : values_in e ls ws ≡ Some (ended, listed)
  pub later : claim_says (at at_line_start h ended listed) (said_by lines) ≡ Some r

-- the first line begins with an `s`, there was no status line, and other lines follow
record IsStatusLine (h e : Bool) (ls : List Literal) (w : List ℕ) (ws : List (List ℕ))
    (lines : Lines) (r : List Literal) : Type 0 where
  pub none_yet : h ≡ false
  pub first : w ≡ codes "s"
  pub later : claim_says (at after_s false e ls) (line_then ws (said_by lines)) ≡ Some r

line_read : (h e : Bool) (ls : List Literal) (w : List ℕ) (ws : List (List ℕ)) (lines : Lines)
    (r : List Literal) → claim_says (at at_line_start h e ls) (said_by ((w ∷ ws) ∷ lines)) ≡ Some r
    → IsValueLine h e ls w ws lines r ⊎ IsStatusLine h e ls w ws lines r
line_read h e ls w ws lines r is =
    search (rules, and_so, line_then, said_by, s_spelled, went_on, values_said, v_spelled)

values_before : (e : Bool) (ls : List Literal) (ws us : List (List ℕ)) (x : HeardSo) (r : HeardSo)
    → values_in e ls ws ≡ Some x → values_in x.0 x.1 us ≡ Some r
    → values_in e ls (ws ++ us) ≡ Some r
values_before e ls ws us x r first second = search (rules, values_append, and_so)

-- ---- Lines after the status line

record IsRest (lines : Lines) (e : Bool) (ls r : List Literal) : Type 0 where
  pub after : Lines
  pub lines_are : filled_lines lines ≡ map value_words after
  pub values : values_in e ls (all_words after) ≡ Some (true, r)

rest_read : (lines : Lines) (e : Bool) (ls r : List Literal)
    → claim_says (at at_line_start true e ls) (said_by lines) ≡ Some r → IsRest lines e ls r
rest_read [] true ls r is = search rules
rest_read [] false ls r is = absurd (let bad : None ≡ Some r = is in cc)
rest_read ([] ∷ lines) e ls r is = search (rules, (rest_read lines e ls r is))
rest_read ((w ∷ ws) ∷ lines) e ls r is = elim (line_read true e ls w ws lines r is) [
  | inl x ↦
      let y = rest_read lines x.ended x.listed r x.later in
      record {
        after = ws ∷ y.after;
        lines_are = grind (arith, x.first, y.lines_are);
        values = values_before e ls ws (all_words y.after) (x.ended, x.listed) (true, r) x.line
            y.values;
      }
  | inr x ↦ absurd (true≢false x.none_yet)
]

rest_taken : (lines after : Lines) (e : Bool) (ls r : List Literal)
    → filled_lines lines ≡ map value_words after → values_in e ls (all_words after) ≡ Some (true, r)
    → claim_says (at at_line_start true e ls) (said_by lines) ≡ Some r
rest_taken [] [] e ls r is values = search rules
rest_taken [] (a ∷ after) e ls r is values = cc
rest_taken ([] ∷ lines) after e ls r is values = rest_taken lines after e ls r is values
rest_taken ((w ∷ ws) ∷ lines) [] e ls r is values = cc
rest_taken ((w ∷ ws) ∷ lines) (a ∷ after) e ls r is values =
    let first : w ∷ ws ≡ value_words a = cc in
    let later : filled_lines lines ≡ map value_words after = cc in
    let x = went_on (values_in e ls a) (λ x. values_in x.0 x.1 (all_words after)) (true, r)
    (sym (values_append a (all_words after) e ls) ∙ values) in
    ap (λ line. claim_says (at at_line_start true e ls) (line_then line (said_by lines))) first
    ∙ values_said true a e ls (said_by lines)
    ∙ ap (λ o. and_so o (λ x. claim_says (at at_line_start true x.0 x.1) (said_by lines))) x.1
    ∙ rest_taken lines after x.0.0 x.0.1 r later x.2

-- ---- All lines

record IsStatus (e : Bool) (ls : List Literal) (ws : List (List ℕ)) (later : List (Option Word))
    (r : List Literal) : Type 0 where
  pub words : ws ≡ codes "SATISFIABLE" ∷ []
  pub later_says : claim_says (at at_line_start true e ls) later ≡ Some r

status_read : (e : Bool) (ls : List Literal) (ws : List (List ℕ)) (later : List (Option Word))
    (r : List Literal)
    → claim_says (at after_s false e ls) (line_then ws later) ≡ Some r → IsStatus e ls ws later r
status_read e ls [] later r is = absurd (let bad : None ≡ Some r = is in cc)
status_read e ls (w ∷ ws) later r is = by (word_of w) refl is
  where
    alone : (us : List (List ℕ)) → claim_says (at after_status true e ls) (line_then us later)
        ≡ Some r → (us ≡ []) × (claim_says (at at_line_start true e ls) later ≡ Some r)
    alone [] is = (refl, is)
    alone (u ∷ us) is = absurd (let bad : None ≡ Some r = is in cc)

    by : (v : Word) → word_of w ≡ v
        → and_so (known (on_status (at after_s false e ls) v))
        (λ s. claim_says s (line_then ws later)) ≡ Some r → IsStatus e ls (w ∷ ws) later r
    by v h h2 = grind (arith, alone, satisfiable_spelled)

record IsOutput (lines : Lines) (e : Bool) (ls r : List Literal) : Type 0 where
  pub before : Lines
  pub after : Lines
  pub lines_are : filled_lines lines ≡ map value_words before ++ status_words ∷ map value_words
      after
  pub values : values_in e ls (all_words (before ++ after)) ≡ Some (true, r)

lines_read : (lines : Lines) (e : Bool) (ls r : List Literal)
    → claim_says (at at_line_start false e ls) (said_by lines) ≡ Some r → IsOutput lines e ls r
lines_read [] e ls r is = absurd (let bad : None ≡ Some r = is in cc)
lines_read ([] ∷ lines) e ls r is = search (rules, (lines_read lines e ls r is))
lines_read ((w ∷ ws) ∷ lines) e ls r is = elim (line_read false e ls w ws lines r is) [
  | inl x ↦
      let y = lines_read lines x.ended x.listed r x.later in
      record {
        before = ws ∷ y.before;
        after = y.after;
        lines_are = grind (arith, x.first, y.lines_are);
        values = values_before e ls ws (all_words (y.before ++ y.after)) (x.ended, x.listed)
            (true, r) x.line y.values;
      }
  | inr s ↦
      let x = status_read e ls ws (said_by lines) r s.later in
      let y = rest_read lines e ls r x.later_says in
      record {
        before = [];
        after = y.after;
        lines_are = grind (arith, y.lines_are, s.first, x.words);
        values = y.values;
      }
]

lines_taken : (lines before after : Lines) (e : Bool) (ls r : List Literal)
    → filled_lines lines ≡ map value_words before ++ status_words ∷ map value_words after
    → values_in e ls (all_words (before ++ after)) ≡ Some (true, r)
    → claim_says (at at_line_start false e ls) (said_by lines) ≡ Some r
lines_taken [] [] after e ls r is values = cc
lines_taken [] (b ∷ before) after e ls r is values = cc
lines_taken ([] ∷ lines) before after e ls r is values =
    lines_taken lines before after e ls r is values
lines_taken ((w ∷ ws) ∷ lines) [] after e ls r is values =
    search (rules, line_then, said_by, rest_taken)
lines_taken ((w ∷ ws) ∷ lines) (b ∷ before) after e ls r is values =
    let first : w ∷ ws ≡ value_words b = cc in
    let later : filled_lines lines ≡ map value_words before ++ status_words ∷ map value_words
    after = cc in
    let x = went_on (values_in e ls b) (λ x. values_in x.0 x.1 (all_words (before ++ after)))
    (true, r) (sym (values_append b (all_words (before ++ after)) e ls) ∙ values) in
    ap (λ line. claim_says (at at_line_start false e ls) (line_then line (said_by lines))) first
    ∙ values_said false b e ls (said_by lines)
    ∙ ap (λ o. and_so o (λ x. claim_says (at at_line_start false x.0 x.1) (said_by lines))) x.1
    ∙ lines_taken lines before after x.0.0 x.0.1 r later x.2

-- ---- Values

none_given : (x : HeardSo) → None ≡ Some x → ⊥
none_given x e = cc

-- nothing may follow the `0`
ended_values : (ws : List (List ℕ)) (ls r : List Literal) → values_in true ls ws ≡ Some (true, r)
    → (ws ≡ []) × (ls ≡ r)
ended_values [] ls r is = (refl, (some_parts (true, ls) (true, r) is).1)
ended_values (w ∷ ws) ls r is = search rules

record AreLiterals (acc : List Literal) (ws : List (List ℕ)) (r : List Literal) : Type 0 where
  pub literals : List Literal
  pub words : ws ≡ literal_words literals
  pub listed : r ≡ reverse literals ++ acc
  pub within : list_all (is_literal 268435455) literals ≡ true
  pub consistent : IsConsistent r

reverse_cons : (l : Literal) (ls acc : List Literal)
    → reverse ls ++ l ∷ acc ≡ reverse (l ∷ ls) ++ acc
reverse_cons l ls acc = grind (arith, common_steps, nat_tests, reverse-append, append_assoc)

values_spelled : (ws : List (List ℕ)) (acc r : List Literal) → IsConsistent acc
    → values_in false acc ws ≡ Some (true, r) → AreLiterals acc ws r
values_spelled [] acc r ok is = search rules
values_spelled (w ∷ ws) acc r ok is = by (word_of w) refl is (λ l. values_spelled ws (l ∷ acc) r)
  where
    by : (v : Word) → word_of w ≡ v → and_so (value_in false acc v) (λ x. values_in x.0 x.1 ws)
        ≡ Some (true, r)
        → ((l : Literal) → IsConsistent (l ∷ acc) → values_in false (l ∷ acc) ws ≡ Some (true, r)
        → AreLiterals (l ∷ acc) ws r) → AreLiterals acc (w ∷ ws) r
    by (words.Number n) v is next = number (nat_le n.size 268435455) (number_literal n) refl refl is
      where
        literal : (l : Literal) (b : Bool) → has acc (complement l) ≡ b → number_literal n ≡ Some l
            → and_so (more_listed b acc l) (λ x. values_in x.0 x.1 ws) ≡ Some (true, r)
            → AreLiterals acc (w ∷ ws) r
        literal l true apart e is = absurd (none_given (true, r) is)
        literal l false apart e is =
            let x = next l (IsConsistent-put acc (l ∷ acc) l ok apart (λ k. refl)) is in
            let s = literal_spelled w n l v e in let same = s.is in let some = s.some in
            let high = s.within in
            let one : nat_le 1 (variable l) ≡ true = grind (arith, nat_tests) in
            let two : nat_le (variable l) 268435455 ≡ true = grind (arith, nat_tests) in
            record {
              literals = l ∷ x.literals;
              words = ap₂ (λ w ws. w ∷ ws) s.text x.words;
              listed = x.listed ∙ reverse_cons l x.literals acc;
              within = grind arith;
              consistent = x.consistent;
            }

        number : (b : Bool) (o : Option Literal) → nat_le n.size 268435455 ≡ b → number_literal n
            ≡ o → and_so (cond b (literal_in acc o) None) (λ x. values_in x.0 x.1 ws)
            ≡ Some (true, r) → AreLiterals acc (w ∷ ws) r
        number false o t e is = absurd (none_given (true, r) is)
        number true None t e is = search (rules, arith, ended_values, zero_spelled)
        number true (Some l) t e is = literal l (has acc (complement l)) refl e is
    by _ v is next = absurd (none_given (true, r) is)

module _ (whole : List Literal) (consistent : IsConsistent whole) where
  values_taken : (ls acc : List Literal) → list_all (is_literal 268435455) ls ≡ true
      → AreAmong acc whole → AreAmong ls whole
      → values_in false acc (literal_words ls) ≡ Some (true, reverse ls ++ acc)
  values_taken [] acc are before after = refl
  values_taken (l ∷ ls) acc are before after =
      let r = both (is_literal 268435455 l) (list_all (is_literal 268435455) ls) are in
      ap (λ o. and_so o (λ x. values_in x.0 x.1 (literal_words ls)))
      (ap (value_in false acc) (literal_word 268435455 l (omega arith) r.0)
      ∙ literal_taken 268435455 l (omega arith) r.0 (literal_in acc) None
      ∙ ap (λ v. more_listed v acc l) (no_complement whole consistent acc ls l before after))
      ∙ values_taken ls (l ∷ acc) r.1 (among_more whole consistent acc ls l before after)
      (λ k h. after k (has_tail l ls k h)) ∙ ap (λ t. Some (true, t)) (reverse_cons l ls acc)

-- ---- A whole output

has_reverse : (ls : List Literal) (l : Literal) → has (reverse ls) l ≡ has ls l
has_reverse ls l = grind (arith, list_any-IsPermutation, IsPermutation-reverse)

consistent_reverse : (ls : List Literal) → IsConsistent (reverse ls) → IsConsistent ls
consistent_reverse ls ok l h = search (rules, has_reverse)

known_is : {A E : Type 0} (r : Result A E) (x : A) → known r ≡ Some x → r ≡ Ok x
known_is r x h = search rules

model_is_written : (bytes : List ℕ) (literals : List Literal) → claim_of (input_of bytes)
    ≡ Ok (reverse literals) → IsModel literals × ModelText (word_lines bytes) literals
model_is_written bytes literals e =
    let x = lines_read (word_lines bytes) false [] (reverse literals)
    (sym (text_claim bytes) ∙ ap (λ r. known r) e) in
    let y = values_spelled (all_words (x.before ++ x.after)) [] (reverse literals) (grind arith)
    x.values in
    let back : reverse literals ≡ reverse y.literals = y.listed ∙ append_nil (reverse y.literals) in
    let same : y.literals ≡ literals =
    sym (reverse-reverse y.literals) ∙ ap reverse (sym back) ∙ reverse-reverse literals in (
      record {
        literals = ap (list_all (is_literal 268435455)) (sym same) ∙ y.within;
        consistent = consistent_reverse literals y.consistent;
      },
      record {
        before = x.before;
        after = x.after;
        one_status = x.lines_are;
        values = y.words ∙ ap literal_words same;
      },
    )

model_is_read : (bytes : List ℕ) (literals : List Literal) → IsModel literals
    → ModelText (word_lines bytes) literals → claim_of (input_of bytes) ≡ Ok (reverse literals)
model_is_read bytes literals m text = known_is (claim_of (input_of bytes)) (reverse literals)
    (text_claim bytes ∙ lines_taken (word_lines bytes) text.before text.after false []
    (reverse literals) text.one_status (ap (values_in false []) text.values
    ∙ values_taken literals m.consistent literals [] m.literals (grind arith) (λ k h. h)
    ∙ ap (λ t. Some (true, t)) (append_nil (reverse literals))))

-- a model is read exactly where the output's text is the grammar's
pub model_grammar : ModelIsGrammar
model_grammar = record { read_is_written = model_is_written; written_is_read = model_is_read }
