-- What follows from the clauses as they are shown follows from them as they are held.
use Rattle.cnf_base.{proofs.SetLemmas.same_from, specs.Literals.{Clause, Literal}}
use Rattle.{propagation.specs.Closure.IsClosure, theory.specs.Propagation.{Forced, IsRootReason}}
use Rattle.root_literals.proofs.RootLemmas.Reasons.{has-in_order, seen_there, there_seen}
use Rattle.root_literals.{proofs.RootLemmas.Terms.{Clauses, shown}, specs.Order.in_order}
use Rattle.std.proofs.Common.{List, Option, Some, [], arith, sym, ℕ, ◌∙◌, ◌≡◌}
use Rattle.theory.proofs.PropagationLemmas.Covers.{Covers, forced_covers, reason_covers}
use Rattle.std.specs.FinMap as maps

module _ (live : Clauses) where
  covers_shown : Covers (maps.get live) (shown live)
  covers_shown k c at = (k, in_order c, seen_there live k c at, same_from _ _ (λ l h. has-in_order c l ∙ h) (λ l h. sym (has-in_order c l) ∙ h))

  pub forced_held : (l : Literal) → Forced (shown live) [] l → Forced (maps.get live) [] l
  forced_held = grind (arith, forced_covers, there_seen, same_from)

  pub forced_shown : (l : Literal) → Forced (maps.get live) [] l → Forced (shown live) [] l
  forced_shown = grind (arith, forced_covers, covers_shown)

  -- all that follows from the ones follows from the others
  pub closure_held : (kept : Option (List Literal)) → IsClosure (shown live) kept → IsClosure (maps.get live) kept
  closure_held = grind (arith, forced_held, forced_shown)

  pub closure_shown : (kept : Option (List Literal)) → IsClosure (maps.get live) kept → IsClosure (shown live) kept
  closure_shown = grind (arith, forced_shown, forced_held)

  module _ (slot : ℕ) (d : Clause) (at : shown live slot ≡ Some d) where
    pub reason_shown : ((c : Clause) → maps.get live slot ≡ Some c → IsRootReason (maps.get live) c) → IsRootReason (shown live) d
    reason_shown held = let w = there_seen live slot d at in
        reason_covers _ _ covers_shown _ _ (grind (arith, same_from)) (held w.0 w.1)

    pub none_shown : ((c : Clause) → maps.get live slot ≡ Some c → ¬ IsRootReason (maps.get live) c) → ¬ IsRootReason (shown live) d
    none_shown held r = let w = there_seen live slot d at in
        held w.0 w.1 (reason_covers _ _ (grind (arith, there_seen, same_from)) _ _ (grind (arith, same_from)) r)
