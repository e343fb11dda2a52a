use Rattle.std.proofs.Common.{sym, ◌∙◌, arith}
use Rattle.trail.proofs.TrailLemmas.Left.{count_with, count_same}
use Rattle.trail.proofs.dense.Dense.count_open.Goals as goal
use Rattle.trail.proofs.dense.Dense.count_open.Goals.{then-not-is_false_under}
use Rattle.trail.proofs.dense.Dense.count_open.Goals.{else-not-is_false_under}

pub loop-l-preserved : goal.loop-l-preserved
loop-l-preserved c =
    let trues = c.args.self.now.lits in let clause = c.args.clause.now in
    let i = c.loop-l.l-index in let inside = c.loop-l-test.true in let x = c.l-item.result in
    let so_far = c.loop-l.invariant in let is = sym c.is_false_under.ensures in
    elim c.if-not-is_false_under.branch [
      | then-not-is_false_under w ↦ record {
        counted = rw (w.count-is, w.last-is) (count_with trues clause i inside x c.l-item.is (is ∙ w.if-not-is_false_under.true) c.loop-l.count c.loop-l.last so_far.counted);
        few = let few = so_far.few in omega (arith, w.count-is);
      }
      | else-not-is_false_under w ↦ record {
        counted = rw (w.count-is, w.last-is) (count_same trues clause i inside x c.l-item.is (is ∙ w.if-not-is_false_under.false) c.loop-l.count c.loop-l.last so_far.counted);
        few = let few = so_far.few in omega (arith, w.count-is);
      }
    ]
