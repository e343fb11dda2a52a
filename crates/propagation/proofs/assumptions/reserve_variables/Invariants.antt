use Rattle.{cnf_base.specs.Literals.{Literal, has}, std.proofs.Common.{IsSome, take, true, ℕ, ◌/◌}}
use Rattle.{std.proofs.Common.◌≡◌, tables.specs.ByKey.at, trail.specs.Numbers.number_at}
use Rattle.propagation.proofs.assumptions.reserve_variables.Given as goal

abbrev pub invariant-loop-l : goal.invariant-loop-l
invariant-loop-l l = record {
  lits : l.trail.lits ≡ l.fn.trail.lits;
  reserved : (v : ℕ) → has l.fn.trail.reserved v ≡ true → has l.trail.reserved v ≡ true;
  room : (x : Literal) → has (take l.l-index l.lits) x ≡ true → has l.trail.reserved (x / 2) ≡ true;
  known : (v : ℕ) → has l.trail.reserved v ≡ true → IsSome (at l.numbers v);
  numbers : (v : ℕ) → number_at l.numbers v ≡ number_at l.fn.numbers v;
}
