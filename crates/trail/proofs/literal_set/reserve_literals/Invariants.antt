use Rattle.{cnf_base.specs.Literals.has, std.proofs.Common.{IsSome, take, true, ℕ, ◌≡◌}}
use Rattle.{tables.specs.ByKey.at, trail.specs.Numbers.number_at}
use Rattle.trail.proofs.literal_set.reserve_literals.Given as goal

abbrev pub invariant-loop-l : goal.invariant-loop-l
invariant-loop-l l = record {
  known : (x : ℕ) → has (take l.l-index l.lits) x ≡ true → IsSome (at l.numbers x);
  numbers : (x : ℕ) → number_at l.numbers x ≡ number_at l.fn.numbers x;
}
