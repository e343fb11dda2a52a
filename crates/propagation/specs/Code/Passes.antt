-- A pass over all clauses, the plainest propagation.
use Rattle.std.specs.Prelude.{ℕ, not, List, map, count_by, ◌≡◌, ◌<◌, Some, IsTrue}
use Rattle.cnf_base.specs.Literals.{Literal, has, variable, Clause}
use Rattle.trail.specs.Code.Left.{IsSettled}
use Rattle.trail.specs.Left.{how_many}
use Rattle.theory.specs.Propagation.{Live, Clash, open_literals}
use Rattle.trail.specs.Trail.{TrailState}
use Rattle.propagation.specs.declared.scan.unit.Pass.TheVariants.{Conflict, Changed}
use Rattle.propagation.specs.declared.scan.unit.Pass.TheVariants.{Quiet as PassQuiet}
use Rattle.propagation.specs.declared.scan.unit.Pass.{Pass}

-- for how many of these variables no literal was set
abbrev pub unset : List Literal → List ℕ → ℕ
unset lits reserved = count_by (λ v. not (has (map variable lits) v)) reserved

-- a pass found a conflict, made fewer variables open, or found that nothing new follows from any
-- clause
abbrev pub IsPassed : Live → TrailState → List Literal → Pass → Type 0
IsPassed live before lits Conflict = Clash live before.lits
IsPassed live before lits Changed =
    (vs : List ℕ) → ((v : ℕ) → IsTrue (has before.reserved v) → IsTrue (has vs v)) →
    unset lits vs < unset before.lits vs
IsPassed live before lits PassQuiet =
    (lits ≡ before.lits) ×
    ((k : ℕ) (c : Clause) → live k ≡ Some c →
    IsSettled before.lits (how_many (open_literals before.lits c)))
