-- What follows depends only on which sets of literals are clauses.
use Rattle.std.proofs.Common.{◌≡◌, ℕ, Bool, true, Some, List, [], ap, ◌∙◌, rules}
use Rattle.cnf_base.specs.Literals.{Literal, complement, Clause, same_clause}
use Rattle.cnf_base.proofs.SetLemmas.{same_there, same_back, same_empty}
use Rattle.theory.specs.Propagation.{Live, IsClosed, Forced, Clash, IsRootReason, by_empty, by_both}

-- each clause of the one is, as a set, a clause of the other
abbrev pub Covers : Live → Live → Type 0
Covers first second = (k : ℕ) (c : Clause) → first k ≡ Some c
    → (j : ℕ) × (d : Clause) × (second j ≡ Some d) × (same_clause c d ≡ true)

module _ (first second : Live) (covers : Covers first second) where
  closed_covers : (passes : Literal → Bool) → IsClosed second passes → IsClosed first passes
  closed_covers passes closed = search (rules, same_there, same_back)

  pub forced_covers : (assumed : List Literal) (l : Literal) → Forced first assumed l
      → Forced second assumed l
  forced_covers assumed l forced =
      record { in_each = λ p closed start. forced.in_each p (closed_covers p closed) start }

  pub clash_covers : (assumed : List Literal) → Clash first assumed → Clash second assumed
  clash_covers assumed (by_empty k at) =
      let w = covers k [] at in by_empty w.0 (w.2 ∙ ap Some (same_empty w.1 w.3))
  clash_covers assumed (by_both l f g) =
      by_both l (forced_covers assumed l f) (forced_covers assumed (complement l) g)

  pub reason_covers : (c d : Clause) → same_clause c d ≡ true → IsRootReason first c
      → IsRootReason second d
  reason_covers c d same r = search (rules, same_there, forced_covers, same_back)
