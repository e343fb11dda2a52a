use Rattle.{std.proofs.Common.{filter, not, ℕ, ◌<◌, ◌==◌, ◌≡◌, ◌≤◌}, tables.specs.Lists.list_at}
use Rattle.occurrences.proofs.occurrence.rid_all.Given as goal

abbrev pub invariant-loop-key : goal.invariant-loop-key
invariant-loop-key l = record {
  done : (k : ℕ) → k < l.key → list_at l.lists k
      ≡ filter (λ e. not (e.slot == l.slot)) (list_at l.fn.lists k);
  left : (k : ℕ) → l.key ≤ k → list_at l.lists k ≡ list_at l.fn.lists k;
}
