-- Forced literals: the least set, its growth with what is assumed, and one clause's rule.
use Rattle.cnf_base.{proofs.SetLemmas.has_head, specs.Literals.{Clause, Literal, complement, has}}
use Rattle.std.proofs.Common.{List, Some, [], rules, true, ℕ, ◌∷◌, ◌≡◌, ◌≢◌}
use Rattle.theory.specs.Propagation.{Clash, Forced, Live, by_both, by_empty}

module _ (live : Live) (assumed : List Literal) where
  -- a literal of the list is forced
  pub forced_assumed : (a : Literal) → has assumed a ≡ true → Forced live assumed a
  forced_assumed a member = record { in_each = λ passes closed start. start a member }

  -- the forced literals are closed under the unit rule
  pub forced_unit : (k : ℕ) (c : Clause) → live k ≡ Some c → (m : Literal) → has c m ≡ true → ((l : Literal) → has c l ≡ true → l ≢ m → Forced live assumed (complement l)) → Forced live assumed m
  forced_unit k c at m member others = search rules

  -- a clause whose literals are all forced to be false
  pub clash_by_false : (k : ℕ) (c : Clause) → live k ≡ Some c
      → ((l : Literal) → has c l ≡ true → Forced live assumed (complement l)) → Clash live assumed
  clash_by_false k [] at falses = by_empty k at
  clash_by_false k (m ∷ c) at falses =
      by_both m (forced_unit k (m ∷ c) at m (has_head m c) (λ l member ne. falses l member))
      (falses m (has_head m c))

-- what is assumed may itself be forced
module _ (live : Live) (first second : List Literal) (each : (a : Literal) → has first a ≡ true
    → Forced live second a) where
  pub forced_through : (l : Literal) → Forced live first l → Forced live second l
  forced_through l forced = search rules

  pub clash_through : Clash live first → Clash live second
  clash_through (by_empty k at) = by_empty k at
  clash_through (by_both l f g) = by_both l (forced_through l f) (forced_through (complement l) g)
