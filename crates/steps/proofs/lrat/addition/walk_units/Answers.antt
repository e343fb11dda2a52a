use Rattle.{std.proofs.Common.arith, steps.proofs.LratLemmas.units_conflict}
use Rattle.{steps.proofs.LratLemmas.units_walk, theory.specs.Lrat.units_of}
use Rattle.trail.proofs.TrailLemmas.MakesFalse.{whole_added, whole_conflict}
use Rattle.std.specs.FinMap as maps
use Rattle.steps.proofs.lrat.addition.walk_units.Goals as goal

pub returns-then-make_false-clause-end : goal.returns-then-make_false-clause-end
returns-then-make_false-clause-end c =
    units_conflict (maps.get c.args.live.now.live) c.args.clause.now (units_of c.args.hints.now)
    c.args.trues.now.lits c.requires.none_true (grind (arith, whole_conflict))
    c.make_false.new.self.lits

pub returns-clause-end : goal.returns-clause-end
returns-clause-end c =
    units_walk (maps.get c.args.live.now.live) c.args.clause.now (units_of c.args.hints.now)
    c.args.trues.now.lits c.requires.none_true c.make_false.new.self.lits c.walk.new.trues.lits
    (grind (arith, whole_added)) c.walk.result c.walk.ensures.end
