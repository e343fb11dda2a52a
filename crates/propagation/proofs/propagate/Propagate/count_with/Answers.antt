use Rattle.propagation.proofs.PropagationLemmas.{Counts.none_with, SameClauses.kept_copies}
use Rattle.{propagation.proofs.PropagationLemmas.Counts.some_with, std.proofs.Common.{arith, ◌∙◌}}
use Rattle.propagation.proofs.propagate.Propagate.count_with.Goals as goal

pub returns-clause-value : goal.returns-clause-value
returns-clause-value g c =
    c.count_with.ensures ∙ kept_copies (g.Self.Propagate.state c.args.self.now).live c.store.result.now.live c.store.ensures.live c.args.l

pub returns-clause-none : goal.returns-clause-none
returns-clause-none g c none =
    none_with (g.Self.Propagate.state c.args.self.now).live c.args.l (grind (arith, returns-clause-value))

pub returns-clause-some : goal.returns-clause-some
returns-clause-some g c some =
    some_with (g.Self.Propagate.state c.args.self.now).live c.args.l (grind (arith, returns-clause-value))
