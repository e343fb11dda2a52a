use Rattle.{cnf_base.specs.Literals.{Literal, has}, std.proofs.Common.{take, true, ℕ, ◌/◌, ◌≡◌}}
use Rattle.trail.proofs.trail.Trail.reserve_each.Given as goal

abbrev pub invariant-loop-l : goal.invariant-loop-l
invariant-loop-l l = record {
  lits : l.self.lits ≡ l.fn.self.lits;
  reserved : (v : ℕ) → has l.fn.self.reserved v ≡ true → has l.self.reserved v ≡ true;
  room : (x : Literal) → has (take l.l-index l.clause) x ≡ true →
      has l.self.reserved (x / 2) ≡ true;
}
