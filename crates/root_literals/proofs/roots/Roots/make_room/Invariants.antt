use Rattle.{cnf_base.specs.Literals.Literal, root_literals.specs.Uses.times, std.proofs.Common.◌≡◌}
use Rattle.root_literals.proofs.roots.Roots.make_room.Given as goal

abbrev pub invariant-loop-place : goal.invariant-loop-place
invariant-loop-place l = record {
  kept : l.self.kept ≡ l.fn.self.kept;
  history : l.self.history ≡ l.fn.self.history;
  reasons : l.self.reasons ≡ l.fn.self.reasons;
  counted : l.self.uses.counted ≡ l.fn.self.uses.counted;
  times : (k : Literal) → times l.self.uses k ≡ times l.fn.self.uses k;
}
