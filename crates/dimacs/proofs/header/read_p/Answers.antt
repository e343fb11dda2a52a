use Rattle.dimacs.proofs.HeaderLemmas.{fixed_refused, fixed_wanted}
use Rattle.dimacs.specs.Formula.{is_p, skip_blank}
use Rattle.std.proofs.Common.{rules}
use Rattle.dimacs.proofs.header.read_p.Goals as goal

pub returns-in_err-place-clause-text : goal.returns-in_err-place-clause-text
returns-in_err-place-clause-text g c =
    fixed_refused _ _ skip_blank is_p _ _ c.in_err-place.ensures.text (search rules)

pub returns-clause-text : goal.returns-clause-text
returns-clause-text g c =
    fixed_wanted _ _ skip_blank is_p _ _ _ c.in_ok-place.ensures.text (search rules)
