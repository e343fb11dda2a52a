use Rattle.{std.proofs.Common.{take, ◌≡◌}, theory.specs.Propagation.open_literals}
use Rattle.trail.specs.Left.{how_many}
use Rattle.trail.proofs.truths.left_of.Given as goal

abbrev pub invariant-loop-l : goal.invariant-loop-l
invariant-loop-l g l = l.left
    ≡ how_many (open_literals (g.T.Truths.trues l.truths) (take l.l-index l.clause))
