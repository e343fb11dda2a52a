-- How the code follows a formula, clause by clause.
use Rattle.std.specs.Prelude.{Bool, true, false, List, [], ◌∷◌, ℕ, ◌+◌, Result, Ok, Err, ◌≡◌}
use Rattle.cnf_base.specs.Literals.{Literal}
use Rattle.cnf_base.specs.Stream.{Suffix}
use Rattle.std.specs.Prelude.{map, take}
use Rattle.std.specs.Result.{result_map_both}
use Rattle.cnf_base.specs.Text.{Listed, Listing}
use Rattle.cnf_base.specs.declared.fault.Fault.{Fault}
use Rattle.dimacs.specs.Formula.{Body, body_of, faulty_body, whole, ends_after}
use Rattle.dimacs.specs.Formula.{and_then}
use Rattle.dimacs.specs.Reading.{PassesNoEnd}
use Rattle.dimacs.specs.declared.header.Header.{Header}

abbrev pub is_nil : List Literal → Bool
is_nil [] = true
is_nil (l ∷ ls) = false

-- what is to come after the clause that was given next
abbrev pub body_left : Result Bool Fault → Header → ℕ → Listing → Body
body_left (Ok true) h complete l = body_of h (complete + 1) [] l
body_left (Ok false) h complete l = whole
body_left (Err f) h complete l = faulty_body f

-- the end of the input was met in the midst of a clause, after the last one, or before it
abbrev pub EndsBody : Result Bool Fault → Body → Type 0
EndsBody (Ok true) b = ⊥
EndsBody (Ok false) b = b ≡ whole
EndsBody (Err f) b = b ≡ faulty_body f

-- ---- How far the input is read

-- the ends that come after the clause that was given next
abbrev pub ends_left : Result Bool Fault → Header → ℕ → Listing → List ℕ
ends_left (Ok true) h complete l = ends_after h (complete + 1) l
ends_left _ h complete l = []

-- where the first of these tokens ends, if there is one
abbrev pub first_end : List Listed → List ℕ
first_end tokens = map (λ t. t.1) (take 1 tokens)

-- what follows where a part of the header was right; a fault comes with where its token ends
abbrev pub and_then_at : {A B : Type 0} → List ℕ → Result A Fault →
    (A → Result B (Fault × List ℕ)) → Result B (Fault × List ℕ)
and_then_at ends r next = and_then (result_map_both (λ x. x) (λ f. (f, ends)) r) next

-- a part of the header is read so, and the end of its token isn't passed
abbrev pub GivesPart : {A : Type 0} → (Listing → Result A Fault) → Listing → Result A Fault →
    Suffix → Type 0
GivesPart test l answer rest = (test l ≡ answer) × PassesNoEnd (first_end l.tokens) rest

-- The header is this, and `left` follows it; or it has this fault, and the end of the token at
-- fault wasn't passed. `rest` is what follows of the input.
abbrev pub GivesHeader : Result Header Fault → Result (Header × Listing) (Fault × List ℕ) →
    Listing → Suffix → Type 0
GivesHeader (Ok h) header left rest = header ≡ Ok (h, left)
GivesHeader (Err f) header left rest =
    (ends : List ℕ) × (header ≡ Err (f, ends)) × PassesNoEnd ends rest
