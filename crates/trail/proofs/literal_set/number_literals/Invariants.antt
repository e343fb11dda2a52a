use Rattle.{cnf_base.specs.Literals.has, std.proofs.Common.{IsSome, cond, take, true, ℕ, ◌≡◌}}
use Rattle.{tables.specs.ByKey.at, trail.specs.Numbers.number_at}
use Rattle.trail.proofs.literal_set.number_literals.Given as goal

abbrev pub invariant-loop-l : goal.invariant-loop-l
invariant-loop-l l = record {
  numbers : (x : ℕ) → number_at l.numbers x
      ≡ cond (has (take l.l-index l.lits) x) l.number (number_at l.fn.numbers x);
  known : (x : ℕ) → has l.lits x ≡ true → IsSome (at l.numbers x);
}
