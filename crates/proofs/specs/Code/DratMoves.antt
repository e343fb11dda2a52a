-- Where the parts of a step in DRAT as text stand.
use Rattle.proofs.specs.Drat.{DratSpot, at_start, in_literals}
use Rattle.proofs.specs.declared.drat_text.part.DratPart.TheVariants.{Start, Literals}
use Rattle.proofs.specs.declared.drat_text.part.DratPart.{DratPart}

abbrev pub drat_spot : DratPart → DratSpot
drat_spot Start = at_start
drat_spot Literals = in_literals
