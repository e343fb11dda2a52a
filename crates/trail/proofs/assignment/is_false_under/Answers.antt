use Rattle.trail.proofs.TrailLemmas.MakesFalse.{value_not_false}
use Rattle.trail.proofs.assignment.is_false_under.Goals as goal

pub returns-in_default : goal.returns-in_default
returns-in_default g c =
    value_not_false (g.A.Assignment.trail_of c.args.assignment.now).lits c.args.l
    c.value_of.ensures.different c.value_of.result c.value_of.ensures.value c.in_default.not-False
