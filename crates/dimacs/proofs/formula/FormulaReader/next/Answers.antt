-- An answer that is kept.
use Rattle.{dimacs.proofs.FormulaLemmas.Kept-clause, std.proofs.Common.rules}
use Rattle.dimacs.proofs.formula.FormulaReader.next.Goals as goal

pub returns-in-Some-clause-clause : goal.returns-in-Some-clause-clause
returns-in-Some-clause-clause g c = Kept-clause c.args.self.now c.in-Some.answer c.args.clause.now
    (search rules) (search rules)
