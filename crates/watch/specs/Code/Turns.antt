-- Turns of a propagation in which literals wait.
use Rattle.std.specs.FinMap as maps
use Rattle.std.specs.FinMap.{FinMap}
use Rattle.std.specs.Ordering.{nat_cmp}
use Rattle.std.specs.Prelude.{ℕ, ◌≡◌, ◌≤◌, List, Some, length, take}
use Rattle.std.specs.Prelude.{IsTrue, IsFalse}
use Rattle.cnf_base.specs.Literals.{Clause, Literal, complement, has}
use Rattle.root_literals.specs.Watched.{IsMet}
use Rattle.watch_lists.specs.Waiting.{waits}
use Rattle.watch_lists.specs.declared.waiting.Waiting.{Waiting}

-- each literal that is false by the first literals of a trail was visited, unless it waits; and
-- each that waits is false
pub record IsTurn (live : FinMap nat_cmp Clause) (trues : List Literal) (done : ℕ)
    (waiting : Waiting) : Type 0 where
  pub inside : done ≤ length trues
  pub are_false : (k : Literal) → IsTrue (waits waiting k) → IsTrue (has trues (complement k))
  pub met : (k : Literal) → IsTrue (has (take done trues) (complement k)) →
      IsFalse (waits waiting k) → (s : ℕ) (c : Clause) → maps.get live s ≡ Some c → IsMet c k trues
