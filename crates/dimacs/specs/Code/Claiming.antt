-- An output whose claim is read token by token.
use Rattle.std.specs.Prelude.{List, ◌≡◌, Result, Ok, Err}
use Rattle.cnf_base.specs.Literals.{Literal, has}
use Rattle.cnf_base.specs.declared.fault.Fault.TheVariants.{OutOfMemory}
use Rattle.cnf_base.specs.declared.fault.Fault.{Fault}
use Rattle.dimacs.specs.Claim.{LinePosition, at_line_start, after_s, after_status, in_values, Said}
use Rattle.dimacs.specs.declared.position.Position.TheVariants.{LineStart, AfterS, AfterStatus}
use Rattle.dimacs.specs.declared.position.Position.TheVariants.{Values}
use Rattle.dimacs.specs.declared.position.Position.{Position}

abbrev pub line_position : Position → LinePosition
line_position LineStart = at_line_start
line_position AfterS = after_s
line_position AfterStatus = after_status
line_position Values = in_values

-- the same, but that these literals are listed
abbrev pub with_listed : List Literal → Said → Said
with_listed ls s =
    record { position = s.position; has_status = s.has_status; is_ended = s.is_ended; listed = ls }

-- the code has come to what was to be said, but for the order of the literals and those that were
-- listed again
pub record ComesTo (now : Said) (said : Result Said Fault) : Type 0 where
  pub listed : List Literal
  pub is : said ≡ Ok (with_listed listed now)
  pub same : (l : Literal) → has now.listed l ≡ has listed l

-- A token was taken, or it is at fault. Want of memory says nothing.
abbrev pub Takes : Result (Unit {0}) Fault → Said → Result Said Fault → Type 0
Takes (Ok _) now said = ComesTo now said
Takes (Err OutOfMemory) now said = Unit {0}
Takes (Err f) now said = said ≡ Err f
