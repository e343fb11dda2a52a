use Rattle.std.proofs.Common.{◌∙◌, arith}
use Rattle.root_literals.proofs.RootLemmas.Kept.{kept_cut, kept_left}
use Rattle.root_literals.proofs.roots.Roots.leave.Goals as goal

pub loop-place-preserved : goal.loop-place-preserved
loop-place-preserved c = let so_far = c.loop-place.invariant in let e = c.cut.ensures in record {
  noted = grind (arith, so_far.noted);
  kept = kept_cut _ _ _ _ _ _ so_far.kept (grind arith) e.kept e.history e.reasons e.lits (e.counted so_far.kept.counted);
  reserved = λ v. e.reserved v ∙ so_far.reserved v;
  assumptions = e.assumptions;
  starts = e.starts ∙ so_far.starts;
}

pub returns-clause-kept : goal.returns-clause-kept
returns-clause-kept c =
    kept_left _ _ _ _ c.loop-place.invariant.kept c.clause-clause.result.now (grind arith) (grind arith)
    (grind arith) _ (grind arith) (grind arith) (grind arith)
