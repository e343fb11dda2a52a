use Rattle.std.proofs.Common.{◌≡◌, ℕ, ◌<◌, ◌≤◌, true, slice_index}
use Rattle.cnf_base.specs.Literals.{complement, has}
use Rattle.trail.proofs.assignment.first_non_false_under.Given as goal

abbrev pub invariant-loop-place : goal.invariant-loop-place
invariant-loop-place g l = record {
  false_before : (k : ℕ) → l.from ≤ k → k < l.place →
      has (g.A.Assignment.trail_of l.assignment).lits (complement (slice_index l.clause k)) ≡ true;
}
