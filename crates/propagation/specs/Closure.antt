-- All that follows from clauses with nothing assumed, where it is kept (our own profile).
use Rattle.std.specs.Prelude.{List, Option, Some, None, IsTrue, ⊤, []}
use Rattle.cnf_base.specs.Literals.{Literal, has}
use Rattle.theory.specs.Propagation.{Live, Forced}

-- the literals are those that follow with nothing assumed
pub record IsWhole (live : Live) (lits : List Literal) : Type 0 where
  pub sound : (l : Literal) → IsTrue (has lits l) → Forced live [] l
  pub all : (l : Literal) → Forced live [] l → IsTrue (has lits l)

-- so are those that are kept, if any are
abbrev pub IsClosure : Live → Option (List Literal) → Type 0
IsClosure live None = ⊤
IsClosure live (Some lits) = IsWhole live lits
