use Rattle.drat_steps.proofs.DratLemmas.Candidates.{Passed, all_touched_passed, clashed_after}
use Rattle.drat_steps.proofs.DratLemmas.Candidates.{none_is_one, passed_more}
use Rattle.std.proofs.{Common.{arith, subst}, lemmas.List.take_all}
use Rattle.drat_steps.proofs.candidates.Candidates.all_clash.Goals as goal

pub returns-then-none_touched-clause-searched : goal.returns-then-none_touched-clause-searched
returns-then-none_touched-clause-searched g c =
    none_is_one _ _ _ _ c.requires.touched (c.none_touched.ensures c.if-none_touched.true)

pub loop-slot-preserved : goal.loop-slot-preserved
loop-slot-preserved g c =
    let inv = c.loop-slot.invariant in
    record {
      passed = passed_more _ _ inv.same _ _ _ c.at.result c.loop-slot-test.true c.at.ensures _
          c.in_ok-passes.ensures.passes inv.passed c.if-not-branch.false;
      same = grind arith;
      clashed = grind (arith, clashed_after);
    }

pub returns-clause-searched : goal.returns-clause-searched
returns-clause-searched g c =
    let now = g.P.Propagate.state _ in
    all_touched_passed now _ _ c.requires.touched _ _ c.as_slice-slot-items.ensures.value
    c.in_ok-touched.ensures.all
    (subst (Passed now c.args.self.now) (grind (arith, take_all)) c.loop-slot.invariant.passed)
