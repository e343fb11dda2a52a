use Rattle.std.proofs.Common.{sym, ◌∙◌}
use Rattle.propagation.proofs.first_with.has_at.Goals as goal

pub returns-in-Some-clause-yes : goal.returns-in-Some-clause-yes
returns-in-Some-clause-yes g c = λ is.
    record { clause = _; at = sym c.in-Some.ensures; member = sym c.contains.ensures.value ∙ is }
