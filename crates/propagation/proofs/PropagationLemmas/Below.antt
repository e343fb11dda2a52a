-- What holds of the clauses in the slots below a number, with one slot more.
use Rattle.{cnf_base.specs.Literals.Clause, std.proofs.Common.{None, Some, arith, ℕ, ◌+◌, ◌<◌, ◌≡◌}}
use Rattle.std.proofs.lemmas.{Bool.cases_eq, Option.{none-some, same_Some}}
use Rattle.theory.specs.Propagation.{Live}

module _ (live : Live) (Holds : Clause → Type 0) (n : ℕ) (below : (k : ℕ) (c : Clause) → k < n → live k ≡ Some c → Holds c) where
  -- which has no clause
  pub below_none : None ≡ live n → (k : ℕ) (c : Clause) → k < n + 1 → live k ≡ Some c → Holds c
  below_none none k c low at = grind (arith, cases_eq, none-some)

  -- of whose clause it holds
  pub below_some : (d : Clause) → Some d ≡ live n → Holds d → (k : ℕ) (c : Clause) → k < n + 1
      → live k ≡ Some c → Holds c
  below_some d here holds k c low at = grind (arith, cases_eq, same_Some)
