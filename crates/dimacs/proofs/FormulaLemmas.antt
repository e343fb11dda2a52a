-- A formula's tokens, one at a time.
use Rattle.cnf_base.{proofs.ListingLemmas.{Gives-from, listing_at-from}, specs.Literals.Literal}
use Rattle.cnf_base.proofs.{StreamLemmas.{Along-map, Along-none, Along-then}, TokenLemmas.GivesNext}
use Rattle.cnf_base.specs.Stream.{Along, Stream, Suffix, most_to_come, tells_failure}
use Rattle.cnf_base.specs.{Text.{Gives, Listing, listing_at}, declared.fault.TextFault.TextFault}
use Rattle.cnf_base.specs.declared.fault.Fault.{Fault, TheVariants.{OutOfMemory, ReadFailed, Text}}
use Rattle.cnf_base.specs.declared.input.{Ending.TheVariants.End, ReadFailed.ReadFailed as Cut}
use Rattle.cnf_base.specs.declared.{place.Place.Place, token.Token.Token, word.Word.Word}
use Rattle.dimacs.proofs.OffsetLemmas.{ends_among-from, gives_no_end, on_word-from}
use Rattle.dimacs.specs.Code.Reading.{EndsBody, body_left, ends_left}
use Rattle.dimacs.specs.Formula.{Body, body_at_end, body_of, body_on_word, ends_after, ends_on_word}
use Rattle.dimacs.specs.{Formula.{faulty_body, judged, whole}, declared.header.Header.Header}
use Rattle.dimacs.specs.Reading.{FormulaReading, GivesClause, GivesEnd, PassesNoEnd}
use Rattle.dimacs.specs.Reading.{body_unless_ended, clauses_to_come, ends_to_come}
use Rattle.std.proofs.Common.{Bool, Err, List, None, Ok, Option, Result, Some, [], ap, arith, refl}
use Rattle.std.proofs.Common.{rules, subst, sym, true, ℕ, ◌++◌, ◌<◌, ◌∙◌, ◌∷◌, ◌≡◌, ◌≤◌}
use Rattle.cnf_base.specs.declared.token.Token.TheVariants as token

-- a fault is what comes, and it stays
pub gives_fault : (f : Fault) (c : List Literal) (b : Body) → b ≡ faulty_body f → GivesClause (Err f) c b (faulty_body f)
gives_fault f c b h = search rules

-- an answer that is kept is what comes, and it stays
kept_gives : (answer : Result Bool Fault) (c : List Literal) (before after : Body) → (answer ≡ Ok true → ⊥)
    → before ≡ body_unless_ended (Some answer) whole → after ≡ body_unless_ended (Some answer) whole → GivesClause answer c before after
kept_gives answer c before after h h2 h3 = search rules

pub Kept-clause : (r : FormulaReading) (answer : Result Bool Fault) (c : List Literal) → r.kept ≡ Some answer → (r.kept ≡ Some (Ok true) → ⊥)
    → Along r.stream r.stream (λ i j. GivesClause answer c (clauses_to_come r i) (clauses_to_come r j) × GivesEnd answer (ends_to_come r i) (ends_to_come r j) j)
Kept-clause r answer c is none = grind (arith, Along-none r.stream)

ends_so : (h : Header) (complete : ℕ) (p : Place) (result : Result Bool Fault) (ls : List Literal) (before : Body) (l : Listing)
    → EndsBody result (body_at_end h complete ls p End) → before ≡ body_at_end h complete ls p End
    → GivesClause result ls before (body_left result h complete l)
ends_so h complete p result ls before l h2 h3 = search rules

-- no clause is given at the end
ends_no_clause : (result : Result Bool Fault) (b : Body) → EndsBody result b → result ≡ Ok true → ⊥
ends_no_clause result b h h2 = search rules

-- from one moment to another literals of one clause were read
pub record Between (h : Header) (complete : ℕ) (old now : Stream) (before at_hand : List Literal) : Type 0 where
  pub text : Along old now (λ i j. (body_of h complete before (listing_at old.place i) ≡ body_of h complete at_hand (listing_at now.place j)) × (ends_after h complete (listing_at old.place i) ≡ ends_after h complete (listing_at now.place j)))
  pub fewer : most_to_come now ≤ most_to_come old
  pub mark : tells_failure now.reader ≡ tells_failure old.reader

pub Between-start : (h : Header) (complete : ℕ) (s : Stream) (at_hand : List Literal) → Between h complete s s at_hand at_hand
Between-start h complete s at_hand = record {
  text = Along-map s s _ _ (Along-none s) (λ i j m e. (ap (λ x. body_of h complete at_hand (listing_at s.place x)) e, ap (λ x. ends_after h complete (listing_at s.place x)) e));
  fewer = omega arith;
  mark = refl;
}

module _ (h : Header) (complete : ℕ) (old now new : Stream) (before at_hand : List Literal) (so_far : Between h complete old now before at_hand) where
  pub Between-line : (p : Place) → GivesNext (Ok (token.LineEnd p)) now new
      → most_to_come new < most_to_come now → tells_failure new.reader ≡ tells_failure now.reader → Between h complete old new before at_hand
  Between-line p gives fewer mark = grind (arith, Along-then)

  -- an answer, what is to come, and how far the input was read
  abbrev Gave : Result Bool Fault → List Literal → Type 0
  Gave result c = Along old new (λ i j. GivesClause result c (body_of h complete before (listing_at old.place i)) (body_left result h complete (listing_at new.place j))
      × GivesEnd result (ends_after h complete (listing_at old.place i)) (ends_left result h complete (listing_at new.place j)) j)

  -- so it is of numbers that are so
  passes : (xs ys : List ℕ) (j : Suffix) → xs ≡ ys → PassesNoEnd ys j → PassesNoEnd xs j
  passes xs ys j is h = let P : List ℕ → Type 0 = λ x. PassesNoEnd x j in subst P (sym is) h

  module _ (p : Place) (w : Word) (gives : GivesNext (Ok (token.Word p w)) now new) where
    abbrev follows : Suffix → Result (Option Literal) TextFault → Body
    follows j r = body_on_word complete at_hand p r (λ c ls. body_of h c ls (listing_at new.place j))

    abbrev ends : Suffix → Result (Option Literal) TextFault → List ℕ
    ends j r = ends_on_word complete j.offset r (λ c. ends_after h c (listing_at new.place j))

    word_text : Along old new (λ i j. (body_of h complete before (listing_at old.place i) ≡ follows j (judged h complete w)) × (ends_after h complete (listing_at old.place i) ≡ ends j (judged h complete w)))
    word_text = Along-then old now new _ _ _ so_far.text gives (λ i j k m q r. (q.0 ∙ ap (body_of h complete at_hand) r, q.1 ∙ ap (ends_after h complete) r))

    -- whatever the word is, no end that was to come was passed
    ends-from : (i j : Suffix) → ends_after h complete (listing_at old.place i) ≡ ends j (judged h complete w) → PassesNoEnd (ends_after h complete (listing_at old.place i)) j
    ends-from i j is = search (rules, passes, on_word-from, ends_among-from, listing_at-from)

    pub Between-literal : (l : Literal) → Ok (Some l) ≡ judged h complete w → most_to_come new < most_to_come now → tells_failure new.reader ≡ tells_failure now.reader
        → Between h complete old new before (at_hand ++ l ∷ [])
    Between-literal l is fewer mark = search (rules, word_text)

    pub Between-clause : Ok None ≡ judged h complete w → Gave (Ok true) at_hand
    Between-clause is = Along-map old new _ _ word_text (λ i j m q. (q.0 ∙ ap (follows j) (sym is), (q.1 ∙ ap (ends j) (sym is), ends-from i j q.1)))

    pub Between-fault : (f : TextFault) → Err f ≡ judged h complete w → Gave (Err (Text f p)) at_hand
    Between-fault f is = search (rules, word_text, gives_fault, ends-from)

    pub Between-refused : (c : List Literal) → Gave (Err OutOfMemory) c
    Between-refused c = Along-map old new _ _ word_text (λ i j m q. (refl, ends-from i j q.1))

  -- and none before the rest
  rest-from : (result : Result Token Cut) (i j k : Suffix) → Gives result (listing_at now.place j) (listing_at new.place k) k
      → ends_after h complete (listing_at old.place i) ≡ ends_after h complete (listing_at now.place j) → PassesNoEnd (ends_after h complete (listing_at old.place i)) k
  rest-from result i j k gives is = passes _ (ends_after h complete (listing_at now.place j)) k is
      (ends_among-from h k.offset complete _ (Gives-from result (listing_at now.place j) new.place k gives))

  pub Between-end : (p : Place) (result : Result Bool Fault) → GivesNext (Ok (token.End p)) now new
      → EndsBody result (body_at_end h complete at_hand p End) → Gave result at_hand
  Between-end p result gives ends = Along-then old now new _ _ _ so_far.text gives (λ i j k m q r. grind (arith, ends_so, gives_no_end, ends_no_clause, rest-from))

  pub Between-failed : (cut : Cut) → GivesNext (Err cut) now new → Gave (Err ReadFailed) at_hand
  Between-failed cut gives = grind (arith, Along-then, gives_fault, rest-from)
