use Rattle.std.proofs.Common.{◌≡◌, []}
use Rattle.test_calls.proofs.tests.propagate.lookups.counts_down.Given as goal

abbrev pub invariant-loop : goal.invariant-loop
invariant-loop g l = record { nothing_assumed : (g.P.Propagate.state l.clauses).assumptions ≡ [] }
