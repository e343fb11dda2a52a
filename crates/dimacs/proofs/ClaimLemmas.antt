-- A solver's output, one token at a time.
use Rattle.cnf_base.proofs.StreamLemmas.{Along-map, Along-still, Along-then}
use Rattle.cnf_base.{proofs.TokenLemmas.GivesNext, specs.{Literals.{Literal, has}, Stream.Along}}
use Rattle.cnf_base.specs.{Stream.{Stream, tells_failure}, Text.{Listed, Listing, listing_at}}
use Rattle.cnf_base.specs.declared.fault.Fault.{Fault, TheVariants.{ReadFailed, Text}}
use Rattle.cnf_base.specs.declared.fault.TextFault.{TextFault, TheVariants.{AfterEnd, BadLine}}
use Rattle.cnf_base.specs.declared.fault.TextFault.TheVariants.{Complement, LiteralTooLarge}
use Rattle.cnf_base.specs.declared.fault.TextFault.TheVariants.{NotClaimed, SecondStatus}
use Rattle.cnf_base.specs.declared.input.Ending.{Ending, TheVariants.{End, Failed}}
use Rattle.cnf_base.specs.declared.{input.ReadFailed.ReadFailed as Cut, place.Place.Place}
use Rattle.{cnf_base.specs.declared.word.Word.Word, dimacs.specs.Claim.{IsClaim, LinePosition}}
use Rattle.dimacs.specs.Claim.{Said, after_s, after_status, at_line_start, claim_after, claim_among}
use Rattle.dimacs.specs.Claim.{claim_on_token, claim_on_word, in_values, on_end, on_first}
use Rattle.dimacs.specs.Claim.{on_line_end, on_literal, on_status, on_value, placed}
use Rattle.dimacs.specs.{Code.Claiming.{ComesTo, Takes, with_listed}, Formula.and_then}
use Rattle.std.proofs.Common.{Bool, Err, List, None, Ok, Option, Result, Some, [], ap, arith, cond}
use Rattle.std.proofs.Common.{eqb, false, refl, rules, subst, sym, true, true≢false, ◌||◌, ◌∙◌, ◌∷◌}
use Rattle.std.proofs.{Common.◌≡◌, lemmas.Bool.false≢true}
use Rattle.cnf_base.specs.declared.word.Word.TheVariants as words
use Rattle.cnf_base.specs.declared.token.Token as tokens
use Rattle.cnf_base.specs.declared.token.Token.TheVariants as token

-- ---- Only the set of the listed literals counts

abbrev Same : List Literal → List Literal → Type 0
Same xs ys = (l : Literal) → has xs l ≡ has ys l

abbrev said : LinePosition → Bool → Bool → List Literal → Said
said position has_status is_ended ls =
    record { position = position; has_status = has_status; is_ended = is_ended; listed = ls }

-- the same fault, or the same said with the same set
data Alike : Result Said Fault → Result Said Fault → Type 0 where
  both : (s : Said) (ls : List Literal) → Same s.listed ls → Alike (Ok s) (Ok (with_listed ls s))
  neither : (f : Fault) → Alike (Err f) (Err f)

module _ (place : Place) (xs ls : List Literal) (same : Same xs ls) where
  -- so it is of what a step makes of both
  abbrev AlikeBy : (Said → Result Said TextFault) → LinePosition → Bool → Bool → Type 0
  AlikeBy f p h e = Alike (placed place (f (said p h e xs))) (placed place (f (said p h e ls)))

  first_alike : (p : LinePosition) (h e : Bool) (w : Word) → AlikeBy (λ s. on_first s w) p h e
  first_alike p true e words.S = neither (Text SecondStatus place)
  first_alike p false e words.S = both (said after_s false e xs) ls same
  first_alike p h e words.V = both (said in_values h e xs) ls same
  first_alike p h e _ = neither (Text BadLine place)

  status_alike : (p : LinePosition) (h e : Bool) (w : Word) → AlikeBy (λ s. on_status s w) p h e
  status_alike p h e words.Satisfiable = both (said after_status true e xs) ls same
  status_alike p h e words.Unsatisfiable = neither (Text NotClaimed place)
  status_alike p h e words.Unknown = neither (Text NotClaimed place)
  status_alike p h e _ = neither (Text BadLine place)

  listed_alike : (p : LinePosition) (h e : Bool) (l : Literal) (a b : Bool) → a ≡ b
      → Alike (placed place (cond a (Err Complement) (Ok (said p h e (l ∷ xs)))))
      (placed place (cond b (Err Complement) (Ok (said p h e (l ∷ ls)))))
  listed_alike p h e l true true q = neither (Text Complement place)
  listed_alike p h e l false false q =
      both (said p h e (l ∷ xs)) (l ∷ ls) (λ k. ap (λ b. eqb l k || b) (same k))
  listed_alike p h e l true false q = absurd (true≢false q)
  listed_alike p h e l false true q = absurd (false≢true q)

  literal_alike : (p : LinePosition) (h e : Bool) (o : Option Literal)
      → AlikeBy (λ s. on_literal s o) p h e
  literal_alike p h e None = both (said p h true xs) ls same
  literal_alike p h e (Some l) = search (rules, listed_alike)

  number_alike : (p : LinePosition) (h e fits ended : Bool) (o : Option Literal)
      → AlikeBy
      (λ s. cond fits (cond ended (Err AfterEnd) (on_literal s o)) (Err LiteralTooLarge)) p h e
  number_alike p h e fits ended o = search (rules, arith, literal_alike, neither)

  value_alike : (p : LinePosition) (h e : Bool) (w : Word) → AlikeBy (λ s. on_value s w) p h e
  value_alike p h e w = search (rules, arith, number_alike, neither)

  word_alike : (p : LinePosition) (h e : Bool) (w : Word) → AlikeBy (λ s. claim_on_word s w) p h e
  word_alike p h e w = search (rules, arith, first_alike, status_alike, value_alike, neither)

  line_alike : (p : LinePosition) (h e : Bool) → AlikeBy on_line_end p h e
  line_alike after_s h e = neither (Text BadLine place)
  line_alike at_line_start h e = both (said at_line_start h e xs) ls same
  line_alike after_status h e = both (said at_line_start h e xs) ls same
  line_alike in_values h e = both (said at_line_start h e xs) ls same

token_alike : (s : Said) (ls : List Literal) (t : tokens.Token) → Same s.listed ls
    → Alike (claim_on_token s t) (claim_on_token (with_listed ls s) t)
token_alike s ls (token.Word place w) same =
    word_alike place s.listed ls same s.position s.has_status s.is_ended w
token_alike s ls (token.LineEnd place) same =
    line_alike place s.listed ls same s.position s.has_status s.is_ended
token_alike s ls (token.End place) same = both s ls same

-- ---- What is claimed

-- whatever the second claim allows the first does too
abbrev pub Carries : Result (List Literal) Fault → Result (List Literal) Fault → Type 0
Carries c d = (r : Result (List Literal) Fault) → IsClaim r d → IsClaim r c

module _ (next : Said → Result (List Literal) Fault)
    (carries : (s : Said) (ls : List Literal) → Same s.listed ls
    → Carries (next (with_listed ls s)) (next s)) where
  then_alike : (a b : Result Said Fault) → Alike a b → Carries (and_then b next) (and_then a next)
  then_alike _ _ (both s ls same) = carries s ls same
  then_alike _ _ (neither f) = λ r x. x

claim_alike : (ts : List Listed) (place : Place) (ending : Ending) (s : Said) (ls : List Literal)
    → Same s.listed ls
    → Carries (claim_among (with_listed ls s) ts place ending) (claim_among s ts place ending)
claim_alike (t ∷ ts) place ending s ls same =
    then_alike (λ s. claim_among s ts place ending) (claim_alike ts place ending) _ _
    (token_alike s ls t.0 same)
claim_alike ts place ending s ls h = search rules

-- the code has come to where the output goes on
comes_to : (now : Said) (after : Result Said Fault) → ComesTo now after → (l : Listing)
    → Carries (and_then after (λ s. claim_after s l)) (claim_after now l)
comes_to now after comes l = search (rules, claim_alike)

-- a token is at fault, and so is the output
fault_claimed : (f : Fault) (now : Said) (after : Result Said Fault)
    (next : Said → Result (List Literal) Fault) → Takes (Err f) now after
    → IsClaim (Err f) (and_then after next)
fault_claimed f now after next h = search rules

-- ---- From token to token

-- from one moment to another tokens were taken
pub record Hears (old now : Stream) (before so_far : Said) : Type 0 where
  pub text : Along old now
      (λ i j. Carries (claim_after before (listing_at old.place i))
      (claim_after so_far (listing_at now.place j)))
  pub mark : tells_failure now.reader ≡ tells_failure old.reader

pub Hears-start : (s : Stream) (so_far : Said) → Hears s s so_far so_far
Hears-start s so_far = record {
  text = Along-map s s _ _ (Along-still s (λ i. claim_after so_far (listing_at s.place i)))
      (λ i j m e r x. subst (IsClaim r) (sym e) x);
  mark = refl;
}

module _ (old now new : Stream) (before so_far : Said) (hears : Hears old now before so_far) where
  -- the output's claim, and what follows so far after one step more
  abbrev Claims : Result (List Literal) Fault → Type 0
  Claims r = Along old new (λ i j. IsClaim r (claim_after before (listing_at old.place i)))

  abbrev GoesOn : Result Said Fault → Type 0
  GoesOn r = Along now new (λ i j. claim_after so_far (listing_at now.place i)
      ≡ and_then r (λ s. claim_after s (listing_at new.place j)))

  module _ (r : Result Said Fault)
      (text : Along now new
      (λ i j. claim_after so_far (listing_at now.place i)
      ≡ and_then r (λ s. claim_after s (listing_at new.place j)))) where
    went_on : Along old new
        (λ i j. Carries (claim_after before (listing_at old.place i))
        (and_then r (λ s. claim_after s (listing_at new.place j))))
    went_on = Along-then old now new _ _ _ hears.text text
        (λ i j k m q e r x. q r (subst (IsClaim r) (sym e) x))

    took : (after : Said) → ComesTo after r → tells_failure new.reader ≡ tells_failure now.reader
        → Hears old new before after
    took after comes mark = record {
      text = Along-map old new _ _ went_on
          (λ i j m q r x. q r (comes_to after _ comes (listing_at new.place j) r x));
      mark = mark ∙ hears.mark;
    }

    fails : (f : Fault) (after : Said) → Takes (Err f) after r → Claims (Err f)
    fails f after takes =
        Along-map old new _ _ went_on (λ i j m q. q (Err f) (fault_claimed f after r _ takes))

  module _ (p : Place) (w : Word) (gives : GivesNext (Ok (token.Word p w)) now new) where
    word_text : GoesOn (placed p (claim_on_word so_far w))
    word_text = Along-map now new _ _ gives (λ i j m e. ap (claim_after so_far) e)

    pub Hears-word : (after : Said) → Takes (Ok tt) after (placed p (claim_on_word so_far w))
        → tells_failure new.reader ≡ tells_failure now.reader → Hears old new before after
    Hears-word after comes mark = took _ word_text after comes mark

    pub Hears-bad_word : (f : Fault) (after : Said)
        → Takes (Err f) after (placed p (claim_on_word so_far w))
        → Claims (Err f)
    Hears-bad_word f after takes = fails _ word_text f after takes

  module _ (p : Place) (gives : GivesNext (Ok (token.LineEnd p)) now new) where
    line_text : GoesOn (placed p (on_line_end so_far))
    line_text = Along-map now new _ _ gives (λ i j m e. ap (claim_after so_far) e)

    pub Hears-line : (after : Said) → Takes (Ok tt) after (placed p (on_line_end so_far))
        → tells_failure new.reader ≡ tells_failure now.reader → Hears old new before after
    Hears-line after comes mark = took _ line_text after comes mark

    pub Hears-bad_line : (f : Fault) (after : Said)
        → Takes (Err f) after (placed p (on_line_end so_far))
        → Claims (Err f)
    Hears-bad_line f after takes = fails _ line_text f after takes

  pub Hears-end : (p : Place) (claim : Result (List Literal) Fault)
      → GivesNext (Ok (token.End p)) now new
      → IsClaim claim (on_end so_far p End) → Claims claim
  Hears-end p claim gives claims = grind (arith, Along-then)

  pub Hears-failed : (cut : Cut) → GivesNext (Err cut) now new
      → Claims (Err ReadFailed)
  Hears-failed cut gives =
      Along-then old now new _ _ _ hears.text gives
      (λ i j k m q g. q (Err ReadFailed) (empty (listing_at now.place j) g.1 g.2))
    where
      empty : (l : Listing) → l.tokens ≡ [] → l.ending ≡ Failed → claim_after so_far l
          ≡ Err ReadFailed
      empty l none failed = rw (none, failed) refl
