use Rattle.std.proofs.Common.{◌≡◌, []}
use Rattle.test_calls.proofs.tests.propagate.calls.fill.Given as goal

abbrev pub invariant-loop-row : goal.invariant-loop-row
invariant-loop-row g l =
    record { nothing_assumed : (g.P.Propagate.state l.clauses).assumptions ≡ [] }
