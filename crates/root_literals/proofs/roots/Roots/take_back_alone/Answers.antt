use Rattle.{root_literals.proofs.RootLemmas.Unshared.kept_out, std.proofs.Common.{ap, arith, ◌∙◌}}
use Rattle.root_literals.proofs.roots.Roots.take_back_alone.Goals as goal

pub returns-clause-kept : goal.returns-clause-kept
returns-clause-kept c is =
    let shown = c.lits-lits.ensures.value ∙ ap (λ t. t.lits) c.trail-2.ensures in
    let unneeded = simp shown at (c.is_needed.ensures.unneeded c.if-is_needed.false) in
    rw c.take_out-3.ensures.lits (kept_out {place = c.place_of-place.result} {l = c.in-Some.l}
    {lits = c.args.assumptions.now.trail.lits}
    {roots = record c.args.self.now { uses = c.is_needed.new.uses }} (grind arith))
