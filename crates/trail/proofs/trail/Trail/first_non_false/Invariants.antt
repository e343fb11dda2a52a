use Rattle.std.proofs.Common.{◌≡◌, ℕ, ◌<◌, ◌≤◌, true, slice_index}
use Rattle.cnf_base.specs.Literals.{complement, has}
use Rattle.trail.proofs.trail.Trail.first_non_false.Given as goal

abbrev pub invariant-loop-place : goal.invariant-loop-place
invariant-loop-place l =
    record {
      false_before : (k : ℕ) → l.from ≤ k → k < l.place →
          has l.self.lits (complement (slice_index l.clause k)) ≡ true;
    }
