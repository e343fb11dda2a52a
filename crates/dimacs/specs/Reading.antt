-- A formula that is read clause by clause.
use Rattle.std.specs.Prelude.{ℕ, Bool, Option, Result, None, Some, Ok, Err, [], ◌≡◌, true, false}
use Rattle.std.specs.Prelude.{List, ◌≤◌, slice_get, ◌∷◌}
use Rattle.cnf_base.specs.Literals.{Literal}
use Rattle.cnf_base.specs.Stream.{Stream, Suffix}
use Rattle.cnf_base.specs.Text.{listing_at}
use Rattle.cnf_base.specs.declared.fault.Fault.TheVariants.{OutOfMemory}
use Rattle.cnf_base.specs.declared.fault.Fault.{Fault}
use Rattle.dimacs.specs.Formula.{Body, faulty_body, whole, body_of, with_first_clause, Formula}
use Rattle.dimacs.specs.Formula.{ends_after}
use Rattle.dimacs.specs.declared.header.Header.{Header}

-- a reader of a formula: where it stands in its input, the header, how many clauses were given, the
-- answer that it gives from now on where it has come to an end, and how many literals it keeps of
-- what it has read: the sum of the lengths of all lists of literals in its own fields
pub record FormulaReading : Type 0 where
  pub stream : Stream
  pub header : Header
  pub complete : ℕ
  pub kept : Option (Result Bool Fault)
  pub stored : ℕ

-- after an end nothing else is to come
abbrev pub body_unless_ended : Option (Result Bool Fault) → Body → Body
body_unless_ended None b = b
body_unless_ended (Some (Ok _)) b = whole
body_unless_ended (Some (Err f)) b = faulty_body f

-- what is still to come of an input
abbrev pub clauses_to_come : FormulaReading → Suffix → Body
clauses_to_come r i =
    body_unless_ended r.kept (body_of r.header r.complete [] (listing_at r.stream.place i))

-- A clause is the first of what is to come; or nothing is to come, and it stays so; or a fault is,
-- and it stays. After want of memory that is the fault that stays.
abbrev pub GivesClause : Result Bool Fault → List Literal → Body → Body → Type 0
GivesClause (Ok true) c before after = before ≡ with_first_clause c after
GivesClause (Ok false) c before after = (before ≡ after) × (before ≡ whole)
GivesClause (Err OutOfMemory) c before after = after ≡ faulty_body OutOfMemory
GivesClause (Err f) c before after = (before ≡ after) × (before ≡ faulty_body f)

-- the formula of a fault in the header
abbrev pub unopened : Fault → Formula
unopened f = record { header = None; clauses = []; fault = Some f }

-- ---- How far the input is read

-- after an end nothing is to come
abbrev pub ends_unless_ended : Option (Result Bool Fault) → List ℕ → List ℕ
ends_unless_ended None ends = ends
ends_unless_ended (Some answer) ends = []

-- where the clauses end that are still to come, and the token at fault
abbrev pub ends_to_come : FormulaReading → Suffix → List ℕ
ends_to_come r i =
    ends_unless_ended r.kept (ends_after r.header r.complete (listing_at r.stream.place i))

-- none of these ends was passed: each is where what is still to come begins, or later
abbrev pub PassesNoEnd : List ℕ → Suffix → Type 0
PassesNoEnd ends rest =
    (k offset : ℕ) → slice_get ends k ≡ Some offset → rest.offset ≤ offset

-- What is still to come begins after the clause that was given. After every other answer, and that
-- is after want of memory too, no end of a clause that was to come was passed, nor that of the
-- token at fault. `rest` is what follows of the input.
abbrev pub GivesEnd : Result Bool Fault → List ℕ → List ℕ → Suffix → Type 0
GivesEnd (Ok true) before after rest = (before ≡ rest.offset ∷ after) × PassesNoEnd before rest
GivesEnd _ before after rest = PassesNoEnd before rest
