-- A fault in the header.
use Rattle.{dimacs.proofs.HeaderLemmas.header_refused, std.proofs.Common.rules}
use Rattle.dimacs.proofs.formula.FormulaReader.open.Goals as goal

pub returns-in-Err-clause-refused : goal.returns-in-Err-clause-refused
returns-in-Err-clause-refused g c = (
  c.read_header.new.scanner,
  search rules,
  header_refused _ _ _ (search rules) _
      c.in-Err.ensures.header,
  search rules,
)
