use Rattle.std.specs.FinMap as maps
use Rattle.{root_literals.specs.Uses.AreCounted, tables.specs.ByKey.at}
use Rattle.root_literals.proofs.uses.Uses.cut.Given as goal

abbrev pub invariant-loop-self : goal.invariant-loop-self
invariant-loop-self l = AreCounted (maps.get l.store.live) (at l.reasons) l.lits l.fn.self → AreCounted (maps.get l.store.live) (at l.reasons) l.lits l.self

abbrev pub decreases-loop-self : goal.decreases-loop-self
decreases-loop-self l = l.self.counted
