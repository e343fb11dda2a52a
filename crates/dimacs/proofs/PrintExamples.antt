-- The examples of printed texts.
use Rattle.{cnf_base.specs.Literals.complement, dimacs.specs.Printing.FormulasLookSo}
use Rattle.{dimacs.specs.Claim.IsConsistent, std.{proofs.Common.{[], rules, ◌∷◌}, specs.Fmt.digits}}

consistent : IsConsistent (2 ∷ 5 ∷ 25 ∷ [])
unfolding complement
consistent l h = search rules

pub examples_printed : FormulasLookSo
unfolding digits
examples_printed = search (rules, consistent)
