use Rattle.{root_literals.specs.Roots.has_conflict, tables.specs.ByKey.at, theory.specs.Sets.SameSet}
use Rattle.std.proofs.Common.{IsSome, cond, length, ◌+◌, ◌≡◌}
use Rattle.{cnf_base.specs.Literals.Literal, root_literals.specs.Roots.IsKept, std.proofs.Common.[]}
use Rattle.root_literals.proofs.roots.Roots.leave.Given as goal

abbrev pub invariant-loop-place : goal.invariant-loop-place
invariant-loop-place l = record {
  noted : (k : Literal) → IsSome (at l.fn.self.reasons k) → IsSome (at l.self.reasons k);
  kept : IsKept l.store.live l.self l.assumptions.trail.lits;
  reserved : SameSet l.assumptions.trail.reserved l.fn.assumptions.trail.reserved;
  assumptions : l.assumptions.assumptions ≡ [];
  starts : l.assumptions.starts ≡ l.fn.assumptions.starts;
}

-- a clash is given up, or literals are
abbrev pub decreases-loop-place : goal.decreases-loop-place
decreases-loop-place l = length l.assumptions.trail.lits + cond (has_conflict l.self.kept) 1 0
