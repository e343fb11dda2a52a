-- Where the parts of a step in LRAT stand, and what they hold.
use Rattle.std.specs.Prelude.{Bool, true, false}
use Rattle.proofs.specs.Lrat.{LratSpot, at_identifier, after_identifier, in_literals, in_hints}
use Rattle.proofs.specs.Lrat.{in_deletion}
use Rattle.proofs.specs.Steps.{Step}
use Rattle.proofs.specs.declared.lrat_text.part.LratPart.TheVariants.{Identifier, AfterIdentifier}
use Rattle.proofs.specs.declared.lrat_text.part.LratPart.TheVariants.{Literals, Hints, Deletion}
use Rattle.proofs.specs.declared.lrat_text.part.LratPart.{LratPart}
use Rattle.proofs.specs.declared.step_buf.StepKind.TheVariants.{Add, Delete}
use Rattle.proofs.specs.declared.step_buf.StepKind.{StepKind}

abbrev pub lrat_spot : LratPart → LratSpot
lrat_spot Identifier = at_identifier
lrat_spot AfterIdentifier = after_identifier
lrat_spot Literals = in_literals
lrat_spot Hints = in_hints
lrat_spot Deletion = in_deletion

abbrev pub is_addition : StepKind → Bool
is_addition Add = true
is_addition Delete = false

-- the literals and the hints of an addition stand in an addition
abbrev pub fits_part : LratPart → Step → Bool
fits_part Identifier s = true
fits_part AfterIdentifier s = is_addition s.kind
fits_part Literals s = is_addition s.kind
fits_part Hints s = is_addition s.kind
fits_part Deletion s = true
