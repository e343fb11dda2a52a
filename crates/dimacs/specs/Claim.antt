-- The model that a solver's output claims (SAT Competition: `s` and `v` lines; that these may stand
-- in any order, the faults, their places and the order of judging are our own profile).
use Rattle.std.specs.Prelude.{◌≡◌, nat_le, Bool, true, false, if◌then◌else◌, List, [], ◌∷◌, Option}
use Rattle.std.specs.Prelude.{None, Some, Result, Ok, Err}
use Rattle.cnf_base.specs.Literals.{Literal, complement, has}
use Rattle.cnf_base.specs.Stream.{Input, Suffix}
use Rattle.cnf_base.specs.Words.{number_literal}
use Rattle.cnf_base.specs.Text.{Listed, Listing, listing_at, listing_of}
use Rattle.cnf_base.specs.declared.input.Ending.{Ending}
use Rattle.cnf_base.specs.declared.input.Ending.TheVariants.{End, Failed}
use Rattle.cnf_base.specs.declared.place.Place.{Place}
use Rattle.cnf_base.specs.declared.word.Word.{Word}
use Rattle.cnf_base.specs.declared.word.Word.TheVariants as words
use Rattle.cnf_base.specs.declared.token.Token as tokens
use Rattle.cnf_base.specs.declared.token.Token.TheVariants as token
use Rattle.cnf_base.specs.declared.fault.Fault.{Fault}
use Rattle.cnf_base.specs.declared.fault.Fault.TheVariants.{Text, ReadFailed, OutOfMemory}
use Rattle.cnf_base.specs.declared.fault.TextFault.{TextFault}
use Rattle.cnf_base.specs.declared.fault.TextFault.TheVariants.{BadToken, BadLine, SecondStatus}
use Rattle.cnf_base.specs.declared.fault.TextFault.TheVariants.{NoStatus, NotClaimed, AfterEnd}
use Rattle.cnf_base.specs.declared.fault.TextFault.TheVariants.{UnterminatedModel, Complement}
use Rattle.cnf_base.specs.declared.fault.TextFault.TheVariants.{LiteralTooLarge}
use Rattle.dimacs.specs.Formula.{and_then}

-- where in a line the next token stands: first, after an `s`, after the status, or after a `v`
pub data LinePosition : Type 0 where
  at_line_start : LinePosition
  after_s : LinePosition
  after_status : LinePosition
  in_values : LinePosition

-- what an output has said so far: where in its line the next token stands, whether there was a
-- status line, whether there was the `0` that ends the model, and the literals that are listed
pub record Said : Type 0 where
  pub position : LinePosition
  pub has_status : Bool
  pub is_ended : Bool
  pub listed : List Literal

-- an output of which no token was read
abbrev pub nothing : Said
nothing = record { position = at_line_start; has_status = false; is_ended = false; listed = [] }

-- a line's first token
abbrev pub on_first : Said → Word → Result Said TextFault
on_first s words.S = if s.has_status then Err SecondStatus else Ok (record s { position = after_s })
on_first s words.V = Ok (record s { position = in_values })
on_first s _ = Err BadLine

-- the token after an `s`
abbrev pub on_status : Said → Word → Result Said TextFault
on_status s words.Satisfiable = Ok (record s { position = after_status; has_status = true })
on_status s words.Unsatisfiable = Err NotClaimed
on_status s words.Unknown = Err NotClaimed
on_status s _ = Err BadLine

-- a literal is listed, or the model ends
abbrev pub on_literal : Said → Option Literal → Result Said TextFault
on_literal s None = Ok (record s { is_ended = true })
on_literal s (Some l) =
    if has s.listed (complement l) then Err Complement
    else Ok (record s { listed = l ∷ s.listed })

-- a token after a `v`, in the order of judging
abbrev pub on_value : Said → Word → Result Said TextFault
on_value s (words.Number n) =
    if nat_le n.size 268435455 then
    (if s.is_ended then Err AfterEnd else on_literal s (number_literal n))
    else Err LiteralTooLarge
on_value s _ = Err BadToken

-- what a word says, by where it stands in its line
abbrev pub on_word_at : LinePosition → Said → Word → Result Said TextFault
on_word_at at_line_start s w = on_first s w
on_word_at after_s s w = on_status s w
on_word_at after_status s w = Err BadLine
on_word_at in_values s w = on_value s w

-- what a word adds to what was said
abbrev pub claim_on_word : Said → Word → Result Said TextFault
claim_on_word s w = on_word_at s.position s w

-- a line may end everywhere but just after its `s`
abbrev pub line_ended : LinePosition → Said → Result Said TextFault
line_ended after_s s = Err BadLine
line_ended _ s = Ok (record s { position = at_line_start })

-- what a line's end adds
abbrev pub on_line_end : Said → Result Said TextFault
on_line_end s = line_ended s.position s

-- the output ends after its last line
abbrev pub claim_at_end : Said → Result (List Literal) TextFault
claim_at_end s =
    if s.has_status then (if s.is_ended then Ok s.listed else Err UnterminatedModel)
    else Err NoStatus

-- what is wrong, and where
abbrev pub placed : {A : Type 0} → Place → Result A TextFault → Result A Fault
placed p (Ok x) = Ok x
placed p (Err f) = Err (Text f p)

-- what a token adds, or what is wrong and where
abbrev pub claim_on_token : Said → tokens.Token → Result Said Fault
claim_on_token s (token.Word p w) = placed p (claim_on_word s w)
claim_on_token s (token.LineEnd p) = placed p (on_line_end s)
claim_on_token s (token.End p) = Ok s

-- what the end of the output means, by where it stands
abbrev pub on_end : Said → Place → Ending → Result (List Literal) Fault
on_end s p End = and_then (placed p (on_line_end s)) (λ s. placed p (claim_at_end s))
on_end s p Failed = Err ReadFailed

-- the claim of an output that has said so much, over the tokens to come
abbrev pub claim_among : Said → List Listed → Place → Ending → Result (List Literal) Fault
claim_among s [] p ending = on_end s p ending
claim_among s (t ∷ ts) p ending =
    and_then (claim_on_token s t.0) (λ s. claim_among s ts p ending)

-- the claim of an output that has said so much, from a text on
abbrev pub claim_after : Said → Listing → Result (List Literal) Fault
claim_after s l = claim_among s l.tokens l.end l.ending

-- the claim of an output that is read from a place on
abbrev pub claim_at : Place → Suffix → Result (List Literal) Fault
claim_at p i = claim_after nothing (listing_at p i)

-- the literals that a solver's output claims to be a model, or the first fault
abbrev pub claim_of : Input → Result (List Literal) Fault
claim_of i = claim_after nothing (listing_of i)

-- no literal is there with its complement
abbrev pub IsConsistent : List Literal → Type 0
IsConsistent listed = (l : Literal) → has listed l ≡ true → has listed (complement l) ≡ false

-- these literals, as a set, are what is claimed, or this is the fault; want of memory says nothing
abbrev pub IsClaim : Result (List Literal) Fault → Result (List Literal) Fault → Type 0
IsClaim (Ok model) (Ok listed) = (l : Literal) → has model l ≡ has listed l
IsClaim (Ok model) (Err f) = ⊥
IsClaim (Err OutOfMemory) claimed = Unit {0}
IsClaim (Err f) claimed = claimed ≡ Err f
