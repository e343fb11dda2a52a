-- The formula of an input (DIMACS CNF; the faults, their places and the order of judging are our
-- own profile).
use Rattle.std.specs.Prelude.{ℕ, ◌+◌, nat_le, Bool, true, false, if◌then◌else◌, List, [], ◌∷◌, ◌++◌}
use Rattle.std.specs.Prelude.{Option, None, Some, Result, Ok, Err, length, slice_get}
use Rattle.std.specs.Prelude.{map, take}
use Rattle.std.specs.Result.{result_map_both}
use Rattle.cnf_base.specs.Literals.{Literal, Clause}
use Rattle.cnf_base.specs.Stream.{Input, Suffix}
use Rattle.cnf_base.specs.Words.{number_literal}
use Rattle.cnf_base.specs.Text.{Listed, Listing, listing_at, listing_of}
use Rattle.cnf_base.specs.declared.input.Ending.{Ending}
use Rattle.cnf_base.specs.declared.input.Ending.TheVariants.{End, Failed}
use Rattle.cnf_base.specs.declared.place.Place.{Place}
use Rattle.cnf_base.specs.declared.word.Word.{Word}
use Rattle.cnf_base.specs.declared.word.Word.TheVariants as words
use Rattle.cnf_base.specs.declared.token.Token.TheVariants as token
use Rattle.cnf_base.specs.declared.fault.Fault.{Fault}
use Rattle.cnf_base.specs.declared.fault.Fault.TheVariants.{Text, ReadFailed}
use Rattle.cnf_base.specs.declared.fault.TextFault.{TextFault}
use Rattle.cnf_base.specs.declared.fault.TextFault.TheVariants.{BadHeader, NumberTooLarge, BadToken}
use Rattle.cnf_base.specs.declared.fault.TextFault.TheVariants.{LiteralOutOfRange, TooManyClauses}
use Rattle.cnf_base.specs.declared.fault.TextFault.TheVariants.{TooFewClauses, UnterminatedClause}
use Rattle.dimacs.specs.declared.header.Header.{Header}

-- ---- The header: the first line that is no comment and not blank

-- what follows where this was right
abbrev pub and_then : {A B E : Type 0} → Result A E → (A → Result B E) → Result B E
and_then (Ok x) next = next x
and_then (Err f) next = Err f

-- what follows of a text
abbrev pub rest_of : List Listed → Place → Ending → Listing
rest_of tokens end ending = record { tokens = tokens; end = end; ending = ending }

-- the first of these tokens as a word of the header, and what follows it; the end of the line or of
-- the input is a fault
abbrev pub word_among : List Listed → Place → Ending → Result (Place × Word × Listing) Fault
word_among ((token.Word p w, offset) ∷ ts) end ending = Ok (p, w, rest_of ts end ending)
word_among ((token.LineEnd p, offset) ∷ ts) end ending = Err (Text BadHeader p)
word_among ((token.End p, offset) ∷ ts) end ending = Err (Text BadHeader p)
word_among [] end End = Err (Text BadHeader end)
word_among [] end Failed = Err ReadFailed

-- the line's next word and what follows it
abbrev pub next_word : Listing → Result (Place × Word × Listing) Fault
next_word l = word_among l.tokens l.end l.ending

-- the tokens from the first on that is no line's end
abbrev pub drop_line_ends : List Listed → List Listed
drop_line_ends ((token.LineEnd p, offset) ∷ ts) = drop_line_ends ts
drop_line_ends ts = ts

-- from the first line on that isn't blank
abbrev pub skip_blank : Listing → Listing
skip_blank l = rest_of (drop_line_ends l.tokens) l.end l.ending

-- the word `p`
abbrev pub is_p : Word → Bool
is_p words.P = true
is_p _ = false

-- the word `cnf`
abbrev pub is_cnf : Word → Bool
is_cnf words.Cnf = true
is_cnf _ = false

-- this word has to stand next
abbrev pub fixed : (Word → Bool) → Listing → Result Listing Fault
fixed test l = and_then (next_word l) (λ w. if test w.1 then Ok w.2 else Err (Text BadHeader w.0))

-- a number without `-` and up to the limit
abbrev pub count_of : ℕ → Place → Word → Result ℕ Fault
count_of limit p (words.Number n) =
    if n.is_negative then Err (Text BadHeader p)
    else (if nat_le n.size limit then Ok n.size
    else Err (Text NumberTooLarge p))
count_of limit p _ = Err (Text BadHeader p)

-- the next word as such a number, and what follows it
abbrev pub count : ℕ → Listing → Result (ℕ × Listing) Fault
count limit l = and_then (next_word l) (λ w. and_then (count_of limit w.0 w.1) (λ n. Ok (n, w.2)))

-- what follows these tokens' first, or the input's end, where the header's line has to end
abbrev pub line_end_among : List Listed → Place → Ending → Result Listing Fault
line_end_among ((token.Word p w, offset) ∷ ts) end ending = Err (Text BadHeader p)
line_end_among ((token.LineEnd p, offset) ∷ ts) end ending = Ok (rest_of ts end ending)
line_end_among ((token.End p, offset) ∷ ts) end ending = Ok (rest_of ts end ending)
line_end_among [] end End = Ok (rest_of [] end End)
line_end_among [] end Failed = Err ReadFailed

-- the line's end, or the input's, has to follow
abbrev pub line_end : Listing → Result Listing Fault
line_end l = line_end_among l.tokens l.end l.ending

-- a part of the header, which is one token, and then what follows it; a fault comes with where that
-- token ends, if there is one
abbrev pub part : {A B : Type 0} → (Listing → Result A Fault) → Listing →
    (A → Result B (Fault × List ℕ)) → Result B (Fault × List ℕ)
part test l next =
    and_then (result_map_both (λ x. x) (λ f. (f, map (λ t. t.1) (take 1 l.tokens))) (test l)) next

-- `p cnf VARIABLES CLAUSES`, and what follows; or the fault, and where the token at fault ends
abbrev pub header_of : Listing → Result (Header × Listing) (Fault × List ℕ)
header_of l =
    part (fixed is_p) (skip_blank l) (λ l. part (fixed is_cnf) l
    (λ l. part (count 268435455) l (λ vars. part (count 4294967295) vars.1
    (λ clauses. part line_end clauses.1
    (λ l. Ok (record { vars = vars.0; clauses = clauses.0 }, l))))))

-- ---- The clauses: literals ended by `0`, over any number of lines

-- the clauses from some point on, and the first fault, if there is one
pub record Body : Type 0 where
  pub clauses : List Clause
  pub fault : Option Fault

-- no clause, and a fault
abbrev pub faulty_body : Fault → Body
faulty_body f = record { clauses = []; fault = Some f }

-- no clause, and a clean end
abbrev pub whole : Body
whole = record { clauses = []; fault = None }

-- a clause before the others
abbrev pub with_first_clause : Clause → Body → Body
with_first_clause c b = record { clauses = c ∷ b.clauses; fault = b.fault }

-- a literal, the `0` that ends a clause, or what is wrong with a word after so many clauses, in the
-- order of judging
abbrev pub judged : Header → ℕ → Word → Result (Option Literal) TextFault
judged h complete (words.Number n) =
    if nat_le n.size 268435455 then
    (if nat_le h.clauses complete then Err TooManyClauses
    else (if nat_le n.size h.vars then Ok (number_literal n) else Err LiteralOutOfRange))
    else Err NumberTooLarge
judged h complete _ = Err BadToken

-- what the end of the input means after so many clauses, with these literals of a clause at hand
abbrev pub body_at_end : Header → ℕ → List Literal → Place → Ending → Body
body_at_end h complete literals p Failed = faulty_body ReadFailed
body_at_end h complete (l ∷ ls) p End = faulty_body (Text UnterminatedClause p)
body_at_end h complete [] p End =
    if nat_le h.clauses complete then whole
    else faulty_body (Text TooFewClauses p)

-- what a judged word means; `rest` is what follows
abbrev pub body_on_word : ℕ → List Literal → Place → Result (Option Literal) TextFault →
    (ℕ → List Literal → Body) → Body
body_on_word complete literals p (Ok (Some l)) rest = rest complete (literals ++ l ∷ [])
body_on_word complete literals p (Ok None) rest =
    with_first_clause literals (rest (complete + 1) [])
body_on_word complete literals p (Err f) rest = faulty_body (Text f p)

-- the clauses that these tokens have, after so many complete ones and these literals; the end of a
-- line means nothing
abbrev pub body_among : Header → ℕ → List Literal → List Listed → Place → Ending → Body
body_among h complete literals [] end ending = body_at_end h complete literals end ending
body_among h complete literals ((token.Word p w, offset) ∷ ts) end ending =
    body_on_word complete literals p (judged h complete w)
    (λ complete literals. body_among h complete literals ts end ending)
body_among h complete literals (t ∷ ts) end ending = body_among h complete literals ts end ending

-- the clauses after so many complete ones, with these literals of a clause at hand
abbrev pub body_of : Header → ℕ → List Literal → Listing → Body
body_of h complete literals l = body_among h complete literals l.tokens l.end l.ending

-- ---- A whole formula

-- the header if it is right, the clauses before the first fault, and that fault
pub record Formula : Type 0 where
  pub header : Option Header
  pub clauses : List Clause
  pub fault : Option Fault

-- the formula of a header and of what follows it
abbrev pub opened : Header → Body → Formula
opened h b = record { header = Some h; clauses = b.clauses; fault = b.fault }

-- the formula of a header, or of a fault in the header
abbrev pub formula_with : Result (Header × Listing) (Fault × List ℕ) → Formula
formula_with (Ok h) = opened h.0 (body_of h.0 0 [] h.1)
formula_with (Err f) = record { header = None; clauses = []; fault = Some f.0 }

-- the formula that is read from a place on
abbrev pub formula_at : Place → Suffix → Formula
formula_at p i = formula_with (header_of (listing_at p i))

-- the formula of a whole input
abbrev pub formula_of : Input → Formula
formula_of i = formula_with (header_of (listing_of i))

-- ---- Where the clauses before the first fault end, and then the token at fault: the offset of the
-- byte after each `0`, and after that token, if a token is at fault

-- what a judged word adds; `offset` is that of the byte after it, and `rest` what the others add
abbrev pub ends_on_word : ℕ → ℕ → Result (Option Literal) TextFault → (ℕ → List ℕ) → List ℕ
ends_on_word complete offset (Ok (Some l)) rest = rest complete
ends_on_word complete offset (Ok None) rest = offset ∷ rest (complete + 1)
ends_on_word complete offset (Err f) rest = offset ∷ []

-- what these tokens add, after so many complete clauses
abbrev pub ends_among : Header → ℕ → List Listed → List ℕ
ends_among h complete [] = []
ends_among h complete ((token.Word p w, offset) ∷ ts) =
    ends_on_word complete offset (judged h complete w) (λ complete. ends_among h complete ts)
ends_among h complete (t ∷ ts) = ends_among h complete ts

-- those after so many complete clauses
abbrev pub ends_after : Header → ℕ → Listing → List ℕ
ends_after h complete l = ends_among h complete l.tokens

-- those of a header's clauses, or that of the header's token at fault
abbrev pub ends_with : Result (Header × Listing) (Fault × List ℕ) → List ℕ
ends_with (Ok h) = ends_among h.0 0 h.1.tokens
ends_with (Err f) = f.1

-- those of a formula that is read from a place on
abbrev pub ends_at : Place → Suffix → List ℕ
ends_at p i = ends_with (header_of (listing_at p i))

-- those of a whole formula
abbrev pub ends_of : Input → List ℕ
ends_of i = ends_with (header_of (listing_of i))

-- where the token at fault ends, if a token is: it comes after the clauses
abbrev pub fault_end : Input → Option ℕ
fault_end i = slice_get (ends_of i) (length (formula_of i).clauses)
