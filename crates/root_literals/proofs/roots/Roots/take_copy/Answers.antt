use Rattle.{root_literals.proofs.RootLemmas.Kept.kept_copy, std.proofs.Common.{[], arith, refl, ◌∷◌}}
use Rattle.root_literals.proofs.roots.Roots.take_copy.Goals as goal

pub returns-in-Some-other_unit-clause-kept : goal.returns-in-Some-other_unit-clause-kept
returns-in-Some-other_unit-clause-kept c =
    kept_copy {roots = c.args.self.now} {m = c.in-Some.l} {before = c.in-Some.l ∷ []} (grind arith)
    refl c.in-Some-other_unit.ensures.unit refl
