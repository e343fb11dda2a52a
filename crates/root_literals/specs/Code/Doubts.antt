-- What looks at doubtful clauses tell.
use Rattle.std.specs.FinMap as maps
use Rattle.std.specs.FinMap.{FinMap}
use Rattle.std.specs.Ordering.{nat_cmp}
use Rattle.std.specs.Prelude.{◌≡◌, ℕ, List, Some, IsTrue, ⊤}
use Rattle.cnf_base.specs.Literals.{Literal, Clause, complement, has}
use Rattle.theory.specs.Propagation.{Live}
use Rattle.root_literals.specs.Order.{each_in_order}
use Rattle.root_literals.specs.Roots.{IsFalseAt}
use Rattle.root_literals.specs.Watched.{IsMet}
use Rattle.root_literals.specs.declared.doubts.Looked.{Looked}
use Rattle.root_literals.specs.declared.doubts.Looked.TheVariants.{Settled, Conflict, Open}

-- where a clause in one of the slots watches a literal that was false, one of its literals is true
abbrev pub AreSettled : Live → List ℕ → List Literal → List Literal → Type 0
AreSettled live slots before now =
    (s : ℕ) → IsTrue (has slots s) → (c : Clause) → live s ≡ Some c →
    (l : Literal) → IsTrue (has before (complement l)) → IsMet c l now

-- what looks at the clauses in the slots tell, with these literals true before and now
abbrev pub IsLooked : FinMap nat_cmp Clause → List ℕ → List Literal → List Literal → Looked →
    Type 0
IsLooked live slots before now Settled = AreSettled (maps.get live) slots before now
IsLooked live slots before now (Conflict s) = IsFalseAt (maps.get (each_in_order live)) s now
IsLooked live slots before now Open = ⊤
