-- A header's parts, one after another.
use Rattle.cnf_base.{proofs.ListingLemmas.{EndFrom, Gives-from}, specs.declared.word.Word.Word}
use Rattle.cnf_base.proofs.{StreamLemmas.{Along-map, Along-none, Along-then}, TokenLemmas.GivesNext}
use Rattle.cnf_base.specs.{Stream.{Along, Stream, Suffix}, declared.token.Token.Token}
use Rattle.cnf_base.specs.{Text.{Gives, Listed, Listing, listing_at}, declared.place.Place.Place}
use Rattle.cnf_base.specs.declared.{fault.Fault.Fault, input.ReadFailed.ReadFailed as Cut}
use Rattle.cnf_base.specs.declared.fault.{Fault.TheVariants.Text, TextFault.TheVariants.BadHeader}
use Rattle.{dimacs.proofs.OffsetLemmas.AreFrom, std.proofs.Common.{subst, sym, ℕ, ◌∙◌, ◌∷◌, ◌≡◌}}
use Rattle.dimacs.specs.{Code.Reading.{GivesHeader, GivesPart, first_end}, Formula.skip_blank}
use Rattle.dimacs.specs.Formula.{and_then, count, count_of, drop_line_ends, ends_at, fixed}
use Rattle.dimacs.specs.Formula.{formula_at, header_of, is_cnf, is_p, line_end, next_word, part}
use Rattle.dimacs.specs.{Reading.{PassesNoEnd, unopened}, declared.header.Header.Header}
use Rattle.std.proofs.Common.{Bool, Err, List, Ok, Result, ap, arith, cond, if◌then◌else◌, rules}
use Rattle.cnf_base.specs.declared.token.Token.TheVariants as token

-- ---- No token's end was passed

drop_line_ends-from : (n : ℕ) (ts : List Listed) → EndFrom n ts → EndFrom n (drop_line_ends ts)
drop_line_ends-from n ((token.LineEnd p, offset) ∷ ts) ends = drop_line_ends-from n ts ends.1
drop_line_ends-from n ts h = search rules

first_end-from : (n : ℕ) (ts : List Listed) → EndFrom n ts → AreFrom n (first_end ts)
first_end-from n ts h = search rules

-- where a token was given, the first one after blank lines isn't passed
blank_passed : (result : Result Token Cut) (before : Listing) (p : Place) (rest : Suffix) → Gives result before (listing_at p rest) rest
    → PassesNoEnd (first_end (skip_blank before).tokens) rest
blank_passed result before p rest gives =
    first_end-from rest.offset (drop_line_ends before.tokens) (drop_line_ends-from rest.offset before.tokens (Gives-from result before p rest gives))

-- ---- A word's meaning

-- a part was read so, and its token's end wasn't passed
abbrev pub Part : {A : Type 0} → Stream → Stream → (Listing → Listing) → (Listing → Result A Fault) → (Listing → Result A Fault) → Type 0
Part old new start test result =
    Along old new (λ i j. GivesPart test (start (listing_at old.place i)) (result (listing_at new.place j)) j)

-- a count begins where the part before it ended
abbrev pub before_count : Listing → Listing
before_count l = l

-- the word, or the fault, makes the part
pub Part-map : {A B : Type 0} (old new : Stream) (start : Listing → Listing) (test result : Listing → Result A Fault) (next : A → Result B Fault) (answer : Listing → Result B Fault)
    → Part old new start test result → ((l : Listing) → and_then (result l) next ≡ answer l) → Part old new start (λ l. and_then (test l) next) answer
Part-map old new start test result next answer run is = search rules

-- what a word means where another has to stand, or a number
abbrev pub fixed_word : (Word → Bool) → Place × Word × Listing → Result Listing Fault
fixed_word test w = if test w.1 then Ok w.2 else Err (Text BadHeader w.0)

abbrev pub counted_word : ℕ → Place × Word × Listing → Result (ℕ × Listing) Fault
counted_word limit w = and_then (count_of limit w.0 w.1) (λ n. Ok (n, w.2))

pub fixed_told : (b : Bool) (p : Place) (l : Listing)
    → cond b (Ok l) (Err (Text BadHeader p)) ≡ and_then (cond b (Ok tt) (Err (Text BadHeader p))) (λ (u : Unit {0}). Ok l)
fixed_told b p l = search rules

-- a word that has to stand there: what refused the one before it, or whether it is the one
module _ (old new : Stream) (start : Listing → Listing) (test : Word → Bool) (result : Result (Unit {0}) Fault) where
  pub fixed_refused : (f : Fault) → Part old new start next_word (λ l. Err f) → result ≡ Err f
      → Part old new start (fixed test) (λ l. and_then result (λ u. Ok l))
  fixed_refused f run is = search rules

  pub fixed_wanted : (p : Place) (w : Word) → Part old new start next_word (λ l. Ok (p, w, l))
      → result ≡ cond (test w) (Ok tt) (Err (Text BadHeader p))
      → Part old new start (fixed test) (λ l. and_then result (λ u. Ok l))
  fixed_wanted p w run is = search (rules, fixed_told)

-- ---- The parts in turn

-- what follows each part
abbrev pub Rest : Type 0
Rest = Result (Header × Listing) (Fault × List ℕ)

abbrev pub done : ℕ → ℕ → Listing → Rest
done vars clauses l = Ok (record { vars = vars; clauses = clauses }, l)

abbrev pub after_clauses : ℕ → ℕ × Listing → Rest
after_clauses vars clauses = part line_end clauses.1 (done vars clauses.0)

abbrev pub after_vars : ℕ × Listing → Rest
after_vars vars = part (count 4294967295) vars.1 (after_clauses vars.0)

abbrev pub after_cnf : Listing → Rest
after_cnf l = part (count 268435455) l after_vars

abbrev pub after_p : Listing → Rest
after_p l = part (fixed is_cnf) l after_cnf

-- the header of what might come before is that of what follows now
abbrev pub Heads : Stream → Stream → (Listing → Rest) → Type 0
Heads old now follows = Along old now (λ i j. header_of (listing_at old.place i) ≡ follows (listing_at now.place j))

pub Heads-start : (s : Stream) → Heads s s (λ l. part (fixed is_p) (skip_blank l) after_p)
Heads-start s = Along-map s s _ _ (Along-none s) (λ i j m e. ap (λ x. header_of (listing_at s.place x)) e)

module _ {A : Type 0} (old now new : Stream) (test : Listing → Result A Fault) (start : Listing → Listing) (next : A → Rest)
    (so_far : Heads old now (λ l. part test (start l) next)) where
  -- the part was right
  pub Heads-part : (x : Listing → A) → Part now new start test (λ l. Ok (x l)) → Heads old new (λ l. next (x l))
  Heads-part x run = grind (arith, Along-then)

  -- or wrong
  pub Heads-fault : (f : Fault) → Part now new start test (λ l. Err f)
      → Along old new (λ i j. GivesHeader (Err f) (header_of (listing_at old.place i)) (listing_at new.place j) j)
  Heads-fault f run = grind (arith, Along-then)

-- after each of the parts
module _ (a b : Stream) (p : Part a b skip_blank (fixed is_p) (λ l. Ok l)) where
  pub Heads-p : Heads a b after_p
  Heads-p = Heads-part a a b (fixed is_p) skip_blank after_p (Heads-start a) (λ l. l) p

  module _ (c : Stream) (cnf : Part b c (λ l. l) (fixed is_cnf) (λ l. Ok l)) where
    pub Heads-cnf : Heads a c after_cnf
    Heads-cnf = Heads-part a b c (fixed is_cnf) (λ l. l) after_cnf Heads-p (λ l. l) cnf

    module _ (d : Stream) (vars : ℕ)
        (first : Part c d before_count (count 268435455) (λ l. Ok (vars, l))) where
      pub Heads-vars : Heads a d (λ l. after_vars (vars, l))
      Heads-vars =
          Heads-part a c d (count 268435455) before_count after_vars Heads-cnf (λ l. (vars, l)) first

      pub Heads-clauses : (e : Stream) (clauses : ℕ)
          → Part d e before_count (count 4294967295) (λ l. Ok (clauses, l))
          → Heads a e (λ l. after_clauses vars (clauses, l))
      Heads-clauses e clauses second = Heads-part a d e (count 4294967295) before_count
          (after_clauses vars) Heads-vars (λ l. (clauses, l)) second

-- ---- Blank lines

abbrev pub Blank : Stream → Stream → Type 0
Blank old now = Along old now (λ i j. skip_blank (listing_at old.place i) ≡ skip_blank (listing_at now.place j))

module _ (old now new : Stream) (so_far : Blank old now) where
  pub Blank-line : (p : Place) → GivesNext (Ok (token.LineEnd p)) now new → Blank old new
  Blank-line p gives = Along-then old now new _ _ _ so_far gives (λ i j k m q r. q ∙ ap skip_blank r)

  module _ (result : Result Token Cut) (gives : GivesNext result now new) where
    -- what the first word after blank lines is, and that its end wasn't passed
    abbrev First : Result Token Cut → (Listing → Result (Place × Word × Listing) Fault) → Type 0
    First t x = (l m : Listing) (k : Suffix) → Gives t l m k → next_word (skip_blank l) ≡ x m

    pub Blank-first : (x : Listing → Result (Place × Word × Listing) Fault) → First result x
        → Along old new (λ i j. (next_word (skip_blank (listing_at old.place i)) ≡ x (listing_at new.place j)) × PassesNoEnd (first_end (skip_blank (listing_at old.place i)).tokens) j)
    Blank-first x is = Along-then old now new _ _ _ so_far gives (λ i j k m q r. (
      ap next_word q ∙ is (listing_at now.place j) (listing_at new.place k) k r,
      (let P : Listing → Type 0 = λ l. PassesNoEnd (first_end l.tokens) k in
          subst P (sym q) (blank_passed result (listing_at now.place j) new.place k r)),
    ))

-- ---- A fault in the header is the formula's

pub header_refused : (source old new : Stream) → old ≡ source → (f : Fault)
    → Along old new (λ i j. GivesHeader (Err f) (header_of (listing_at old.place i)) (listing_at new.place j) j)
    → Along source new (λ i j. (formula_at source.place i ≡ unopened f) × PassesNoEnd (ends_at source.place i) j)
header_refused source old new is f gives =
    let P : Stream → Type 0 = λ s. Along s new (λ i j. (formula_at s.place i ≡ unopened f) × PassesNoEnd (ends_at s.place i) j) in
    subst P is (Along-map old new _ _ gives (λ i j m h. grind arith))
