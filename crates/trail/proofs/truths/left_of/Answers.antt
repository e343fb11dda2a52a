use Rattle.{std.proofs.Common.{sym, ◌∙◌}, trail.proofs.TrailLemmas.Left.left_ended}
use Rattle.trail.proofs.truths.left_of.Goals as goal

pub returns-in-More : goal.returns-in-More
returns-in-More g c =
    sym (left_ended (g.T.Truths.trues c.args.truths.now) c.args.clause.now c.loop-l.l-index c.loop-l-test.true c.l-item.result c.l-item.is (sym c.falsifies.ensures ∙ c.if-not-falsifies.true) c.loop-l.left c.loop-l.invariant (sym c.in-More.ensures))
