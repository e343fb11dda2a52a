use Rattle.std.proofs.Common.{arith, ◌∙◌}
use Rattle.propagation.proofs.PropagationLemmas.Closing.{followed_more, followed_whole}
use Rattle.propagation.proofs.closure.follow.Goals as goal

pub loop-done-preserved : goal.loop-done-preserved
loop-done-preserved g c =
    let touched = c.in_ok-slots_touched.ensures in let e = c.in_ok-take_each.ensures in
    let so_far = c.loop-done.invariant in let same = touched.same ∙ so_far.same in
    let inside = simp c.lits.ensures at c.loop-done-test.true in
    let is = simp c.lits-in-loop-done.ensures at c.index-lits-done.is in record {
      followed =
          followed_more _ _ _ _ inside _ is e.begins so_far.followed c.slots_touched.new.into.items (simp same at e.sound)
          (simp so_far.same at touched.all) (grind arith);
      same = same;
    }

pub returns-clause-whole : goal.returns-clause-whole
returns-clause-whole g c =
    followed_whole _ c.loop-done.done _ c.loop-done.invariant.followed (grind arith)
