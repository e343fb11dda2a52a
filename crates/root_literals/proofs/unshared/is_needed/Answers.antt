use Rattle.root_literals.proofs.RootLemmas.Unshared.{unneeded_none, unneeded_unused}
use Rattle.std.proofs.{Common.arith, Common.inl, Common.inr, lemmas.Bool.cases_lt}
use Rattle.{std.proofs.lemmas.Grind.get_or_default_zero, tables.specs.ByKey.at}
use Rattle.root_literals.proofs.unshared.is_needed.Goals as goal

pub returns-then-count_with-eq0-clause-unneeded : goal.returns-then-count_with-eq0-clause-unneeded
returns-then-count_with-eq0-clause-unneeded c _ =
    unneeded_none c.args.store.now.live (at c.args.reasons.now) c.args.lits.now c.args.place c.args.l (grind arith)

pub returns-then-is_unused-clause-unneeded : goal.returns-then-is_unused-clause-unneeded
returns-then-is_unused-clause-unneeded c _ =
    unneeded_unused c.args.store.now.live (at c.args.reasons.now) c.args.lits.now c.args.place c.args.l (grind arith)

pub loop-behind-preserved : goal.loop-behind-preserved
loop-behind-preserved c = record {
  unneeded = λ q s d low high is there. elim (cases_lt q c.loop-behind.behind) [
    | inl before ↦ c.loop-behind.invariant.unneeded q s d low before is there
    | inr past ↦ grind (arith, get_or_default_zero c.args.lits.now c.loop-behind.behind c.index-lits-behind.result)
  ];
}

pub returns-clause-unneeded : goal.returns-clause-unneeded
returns-clause-unneeded c _ q s d low high is there = let end = c.loop-behind-test.false in
    c.loop-behind.invariant.unneeded q s d low (omega (arith, end, high)) is there
