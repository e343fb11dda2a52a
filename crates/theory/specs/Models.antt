-- Assignments, and which clauses they satisfy, as in DIMACS CNF: a clause needs one true literal.
-- They are tests on all variables, not finite sets of them: that none satisfies a formula says at
-- least as much.
use Rattle.std.specs.Prelude.{◌≡◌, ℕ, ◌/◌, ◌%◌, Bool, not, ◌==◌, Some, IsTrue}
use Rattle.std.specs.Prelude.{if◌then◌else◌}
use Rattle.std.specs.List.{list_any}
use Rattle.cnf_base.specs.Literals.{Literal, Clause}
use Rattle.theory.specs.Propagation.{Live}

-- An assignment is a test on variables: those that pass are true.
abbrev pub Assignment : Type 0
Assignment = ℕ → Bool

-- whether a literal is true: 2 * x is where the variable x is, and 2 * x + 1 where it isn't
unfoldable pub holds : Assignment → Literal → Bool
holds v l = if l % 2 == 0 then v (l / 2) else not (v (l / 2))

-- some literal of the clause is true
abbrev pub satisfies : Assignment → Clause → Bool
satisfies v c = list_any (holds v) c

-- every live clause has a true literal
abbrev pub Models : Assignment → Live → Type 0
Models v live = (k : ℕ) (c : Clause) → live k ≡ Some c → IsTrue (satisfies v c)

-- some assignment makes every live clause true
abbrev pub HasModel : Live → Type 0
HasModel live = (v : Assignment) × Models v live
