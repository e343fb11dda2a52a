use Rattle.{cnf_base.specs.Literals.complements, propagation.specs.Assumptions.Assuming}
use Rattle.{std.proofs.Common.subst, trail.proofs.TrailLemmas.MakesFalse.whole_is}
use Rattle.propagation.proofs.propagate.Propagate.assume.Goals as goal

pub returns-clause-assumed : goal.returns-clause-assumed
returns-clause-assumed g c =
    let state = g.Self.Propagate.state in
    subst (λ d. Assuming (state c.args.self.now) (state c.assume_part.new.self) (complements d)
    c.assume_part.result) (whole_is c.args.lits.now) c.assume_part.ensures.assumed
