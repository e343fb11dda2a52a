-- The lines of a report (`s VERIFIED` and `s NOT VERIFIED` are those of DRAT-trim; all others are
-- our own profile).
use Rattle.std.specs.Prelude.{ℕ, ◌-◌, ◌/◌, ◌%◌, ◌^◌, ◌==◌, min, if◌then◌else◌, List, [], ◌++◌}
use Rattle.std.specs.Prelude.{codes, decimal}
use Rattle.cnf_base.specs.Literals.{Literal}
use Rattle.cnf_base.specs.declared.fault.Fault.{Fault}
use Rattle.cnf_base.specs.declared.fault.Fault.TheVariants as fault
use Rattle.cnf_base.specs.declared.fault.TextFault.{TextFault}
use Rattle.cnf_base.specs.declared.fault.TextFault.TheVariants as text
use Rattle.cnf_base.specs.declared.fault.BinaryFault.{BinaryFault}
use Rattle.cnf_base.specs.declared.fault.BinaryFault.TheVariants as binary
use Rattle.dimacs.specs.declared.header.Header.{Header}
use Rattle.theory.specs.declared.accepted.Accepted.{Accepted}
use Rattle.theory.specs.declared.accepted.Accepted.TheVariants.{Rup, Rat, Pr, Deleted, Ignored}
use Rattle.theory.specs.declared.accepted.Accepted.TheVariants.{Empty}
use Rattle.theory.specs.declared.refusal.Refusal.{Refusal}
use Rattle.theory.specs.declared.refusal.Refusal.TheVariants as refusal
use Rattle.report.specs.declared.status.Status.{Status}
use Rattle.report.specs.declared.status.Status.TheVariants as status

-- numbers are printed up to the greatest of 64 bits
abbrev pub shown : ℕ → List ℕ
shown n = decimal (min n (2 ^ 64 - 1))

-- the line of a formula's header
abbrev pub formula_line : Header → List ℕ
formula_line h =
    codes "c formula " ++ decimal h.vars ++ codes " variables " ++ decimal h.clauses
    ++ codes " clauses"

-- ---- Faults

-- the text of a fault in a text
abbrev pub kind_text : TextFault → List ℕ
kind_text text.BadHeader = codes "bad header"
kind_text text.NumberTooLarge = codes "number too large"
kind_text text.BadToken = codes "bad token"
kind_text text.LiteralOutOfRange = codes "literal out of range"
kind_text text.TooManyClauses = codes "too many clauses"
kind_text text.TooFewClauses = codes "too few clauses"
kind_text text.UnterminatedClause = codes "unterminated clause"
kind_text text.BadLine = codes "bad line"
kind_text text.SecondStatus = codes "second status line"
kind_text text.NoStatus = codes "no status line"
kind_text text.NotClaimed = codes "no model claimed"
kind_text text.AfterEnd = codes "token after the end of the model"
kind_text text.UnterminatedModel = codes "unterminated model"
kind_text text.Complement = codes "literal and its complement"
kind_text text.LiteralTooLarge = codes "literal too large"
kind_text text.IdTooLarge = codes "identifier too large"
kind_text text.UnterminatedStep = codes "unterminated step"

-- the text of a fault in a binary proof
abbrev pub binary_text : BinaryFault → List ℕ
binary_text binary.LiteralTooLarge = codes "literal too large"
binary_text binary.UnterminatedStep = codes "unterminated step"
binary_text binary.BadTag = codes "bad tag"
binary_text binary.BadNumber = codes "bad number"

-- the line of a fault in the input of this name; want of memory has none
abbrev pub fault_line : List ℕ → Fault → List ℕ
fault_line name (fault.Text kind p) =
    codes "c " ++ name ++ codes " " ++ decimal p.line ++ codes ":" ++ decimal p.col ++ codes ": "
    ++ kind_text kind
fault_line name (fault.Binary kind n) =
    codes "c " ++ name ++ codes " byte " ++ decimal n ++ codes ": " ++ binary_text kind
fault_line name fault.ReadFailed = codes "c cannot read " ++ name
fault_line name fault.OutOfMemory = []

-- the status of a fault: an output that claims no model is well formed
abbrev pub fault_status : Fault → Status
fault_status (fault.Text text.NotClaimed p) = status.NotVerified
fault_status (fault.Text text.Complement p) = status.NotVerified
fault_status fault.ReadFailed = status.ReadFailed
fault_status fault.OutOfMemory = status.OutOfMemory
fault_status _ = status.Malformed

-- ---- Steps

-- the words of an accepted step
abbrev pub word_text : Accepted → List ℕ
word_text Rup = codes " add rup"
word_text Rat = codes " add rat"
word_text Pr = codes " add pr"
word_text Deleted = codes " delete"
word_text Ignored = codes " ignored"
word_text Empty = codes " add rup"

-- the line of the accepted step n
abbrev pub trace_line : ℕ → Accepted → List ℕ
trace_line n word = codes "c " ++ shown n ++ word_text word

-- the sign of a literal
abbrev pub sign_text : Literal → List ℕ
sign_text l = if l % 2 == 0 then [] else codes "-"

-- the line so far, with the cause of a refusal
abbrev pub with_cause : List ℕ → Refusal → List ℕ
with_cause front refusal.NotRup = front ++ codes "not RUP"
with_cause front (refusal.NeitherRupNorRat l) =
    front ++ codes "neither RUP nor RAT on " ++ sign_text l ++ decimal (l / 2)
with_cause front refusal.NotAlive = front ++ codes "clause is not alive"
with_cause front refusal.InconsistentSet = front ++ codes "set holds a literal and its complement"
with_cause front refusal.NeitherRupNorPr = front ++ codes "neither RUP nor PR"
with_cause front refusal.IdOutOfOrder = front ++ codes "identifier is not above all earlier ones"
with_cause front (refusal.UnknownId k) = front ++ codes "unknown id " ++ decimal k
with_cause front (refusal.NotUnit k) = front ++ codes "hint " ++ decimal k ++ codes " is not unit"
with_cause front (refusal.NotCandidate k) =
    front ++ codes "clause " ++ decimal k ++ codes " does not hold the complement"
with_cause front (refusal.NamedTwice k) =
    front ++ codes "clause " ++ decimal k ++ codes " is named twice"
with_cause front (refusal.GroupWithoutConflict k) =
    front ++ codes "group " ++ decimal k ++ codes " has no conflict"
with_cause front (refusal.Unnamed k) =
    front ++ codes "clause " ++ decimal k ++ codes " holds the complement and is not named"
with_cause front refusal.NoConflict = front ++ codes "no conflict"
with_cause front _ = front

-- the line of the refused step n
abbrev pub refusal_line : ℕ → Refusal → List ℕ
refusal_line n r = with_cause (codes "c step " ++ shown n ++ codes ": ") r

-- the line of a verified proof of n steps
abbrev pub steps_line : ℕ → ℕ → List ℕ
steps_line n peak = codes "c steps " ++ shown n ++ codes " peak " ++ shown peak

-- the line of a proof that ends without the empty clause
abbrev pub end_line : List ℕ
end_line = codes "c end: no empty clause"

-- ---- Models

-- the line of the first clause that has no true literal
abbrev pub unmet_line : ℕ → List ℕ
unmet_line k = codes "c clause " ++ shown k ++ codes " is not satisfied"

-- the line of a verified model of n clauses
abbrev pub clauses_line : ℕ → List ℕ
clauses_line n = codes "c clauses " ++ shown n

-- ---- The verdict

-- what is checked: that a formula has no model, or has one
pub data Certificate : Type 0 where
  a_proof : Certificate
  a_model : Certificate

-- the verdict's last line
abbrev pub sentence : Certificate → Status → List ℕ
sentence a_proof status.Verified = codes "s VERIFIED"
sentence a_proof _ = codes "s NOT VERIFIED"
sentence a_model status.Verified = codes "s MODEL VERIFIED"
sentence a_model _ = codes "s MODEL NOT VERIFIED"
