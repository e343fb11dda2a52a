-- Where the clauses of a formula end, and the token at fault.
use Rattle.cnf_base.{proofs.ListingLemmas.EndFrom, specs.{Literals.Literal, Stream.{Input, Suffix}}}
use Rattle.cnf_base.specs.{Text.{Listed, Listing, listing_of}, declared.fault.TextFault.TextFault}
use Rattle.cnf_base.specs.declared.{fault.Fault.Fault, input.Ending.Ending, place.Place.Place}
use Rattle.dimacs.specs.Formula.{Body, body_among, body_on_word, ends_among, ends_of, ends_on_word}
use Rattle.dimacs.specs.Formula.{ends_with, formula_of, formula_with, header_of, judged}
use Rattle.dimacs.specs.{Reading.{GivesEnd, PassesNoEnd}, declared.header.Header.Header}
use Rattle.std.proofs.Common.{Bool, List, Ok, Option, Result, Some, [], length, rules, slice_get}
use Rattle.std.proofs.{Common.{true, ℕ, ◌∷◌, ◌≡◌, ◌≤◌}, lemmas.Option.none-some}
use Rattle.cnf_base.specs.declared.token.Token.TheVariants as token

-- each of these is this offset or a later one
abbrev pub AreFrom : ℕ → List ℕ → Type 0
AreFrom n offsets = (k offset : ℕ) → slice_get offsets k ≡ Some offset → n ≤ offset

pub from-none : (n : ℕ) → AreFrom n []
from-none n k offset at = absurd (none-some offset at)

module _ (h : Header) (n : ℕ) where
  pub on_word-from : (complete offset : ℕ) (r : Result (Option Literal) TextFault) (rest : ℕ → List ℕ) → n ≤ offset → ((complete : ℕ) → AreFrom n (rest complete))
      → AreFrom n (ends_on_word complete offset r rest)
  on_word-from complete offset r rest h h2 = search rules

  pub ends_among-from : (complete : ℕ) (ts : List Listed) → EndFrom n ts → AreFrom n (ends_among h complete ts)
  ends_among-from complete [] ends = from-none n
  ends_among-from complete ((token.Word p w, offset) ∷ ts) ends =
      on_word-from complete offset (judged h complete w) (λ complete. ends_among h complete ts)
      ends.0 (λ complete. ends_among-from complete ts ends.1)
  ends_among-from complete (t ∷ ts) ends = search (rules, (ends_among-from complete ts ends.1))

-- ---- There is one for each clause

module _ (h : Header) where
  on_word-length : (complete offset : ℕ) (literals : List Literal) (p : Place) (r : Result (Option Literal) TextFault) (ends : ℕ → List ℕ) (bodies : ℕ → List Literal → Body)
      → ((complete : ℕ) (literals : List Literal) → length (bodies complete literals).clauses ≤ length (ends complete))
      → length (body_on_word complete literals p r bodies).clauses ≤ length (ends_on_word complete offset r ends)
  on_word-length complete offset literals p r ends bodies h = search rules

  ends_among-length : (complete : ℕ) (literals : List Literal) (ts : List Listed) (p : Place) (ending : Ending)
      → length (body_among h complete literals ts p ending).clauses ≤ length (ends_among h complete ts)
  ends_among-length complete literals [] p ending = search rules
  ends_among-length complete literals ((token.Word q w, offset) ∷ ts) p ending =
      on_word-length complete offset literals q (judged h complete w) (λ complete. ends_among h complete ts) (λ complete literals. body_among h complete literals ts p ending)
      (λ complete literals. ends_among-length complete literals ts p ending)
  ends_among-length complete literals ((token.LineEnd q, offset) ∷ ts) p ending = ends_among-length complete literals ts p ending
  ends_among-length complete literals ((token.End q, offset) ∷ ts) p ending = ends_among-length complete literals ts p ending

ends_with-length : (r : Result (Header × Listing) (Fault × List ℕ)) → length (formula_with r).clauses ≤ length (ends_with r)
ends_with-length r = search (rules, ends_among-length)

pub ends_of-length : (i : Input) → length (formula_of i).clauses ≤ length (ends_of i)
ends_of-length i = ends_with-length (header_of (listing_of i))

-- ---- After an end

-- of an answer that ends the reader no clause is to come
pub gives_no_end : (answer : Result Bool Fault) (before after : List ℕ) (j : Suffix) → (answer ≡ Ok true → ⊥) → PassesNoEnd before j → GivesEnd answer before after j
gives_no_end answer before after j h h2 = search rules
