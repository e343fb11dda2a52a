use Rattle.{cnf_base.specs.Literals.{complement, has}, occurrences.specs.Occurrences.occurs}
use Rattle.std.{proofs.Common.{take, ℕ, ◌≡◌}, specs.List.list_any}
use Rattle.occurrences.proofs.by_literal.Occurrences.slots_touched.Given as goal

abbrev pub invariant-loop-l : goal.invariant-loop-l
invariant-loop-l l = record {
  slots : (s : ℕ) → has l.into.items s
      ≡ list_any (λ k. occurs l.fn.self (complement k) s) (take l.l-index l.lits);
  same : (k s : ℕ) → occurs l.self k s ≡ occurs l.fn.self k s;
}
