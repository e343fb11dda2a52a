-- Slots whose clauses lack a literal.
use Rattle.{cnf_base.specs.Literals.{Clause, Literal, has}, propagation.specs.Assumptions.HasAt}
use Rattle.std.proofs.Common.{None, Some, arith, false, ℕ, ◌+◌, ◌<◌, ◌∙◌, ◌≡◌, ◌≤◌}
use Rattle.std.proofs.lemmas.{Bool.{cases_eq, true≢false}, Option.{none-some, same_Some}}
use Rattle.theory.specs.Propagation.{Live}

module _ (live : Live) (l : Literal) where
  pub lacks_none : (n : ℕ) → None ≡ live n → HasAt live l n → ⊥
  lacks_none n none h = none-some h.clause (none ∙ h.at)

  pub lacks_more : (n : ℕ) (c : Clause) → Some c ≡ live n → has c l ≡ false → HasAt live l n → ⊥
  lacks_more n c here absent h = grind (arith, true≢false, same_Some)

  pub lacks_next : (from n : ℕ) → ((s : ℕ) → from ≤ s → s < n → HasAt live l s → ⊥)
      → (HasAt live l n → ⊥) → (s : ℕ) → from ≤ s → s < n + 1 → HasAt live l s → ⊥
  lacks_next from n below here s low high h = grind (arith, cases_eq)

pub ruleset lack_steps = (lacks_more, lacks_none)
