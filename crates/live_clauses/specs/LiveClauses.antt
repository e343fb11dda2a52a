-- What the live clauses of an LRAT session are seen as (our own profile).
use Rattle.std.specs.FinMap as maps
use Rattle.std.specs.FinMap.{FinMap}
use Rattle.std.specs.List.{IsDistinct}
use Rattle.std.specs.Ordering.{nat_cmp}
use Rattle.std.specs.Prelude.{ℕ, ◌≡◌, Some, IsTrue, List, nat_eq}
use Rattle.cnf_base.specs.Literals.{Clause, Literal, has}
use Rattle.theory.specs.Lrat.{LratState}
use Rattle.theory.specs.Propagation.{Live}

-- the live clauses, the greatest identifier so far, and the sum of the lengths of all lists of
-- literals that are kept
pub record LiveClausesState : Type 0 where
  pub live : FinMap nat_cmp Clause
  pub top : ℕ
  pub stored : ℕ

-- no clause is alive, and none was
abbrev pub no_live_clauses : LiveClausesState
no_live_clauses = record { live = maps.empty; top = 0; stored = 0 }

-- the state of the rule that they are
abbrev pub lrat_state : LiveClausesState → LratState
lrat_state s = record { live = maps.get s.live; top = s.top }

-- the clause that is alive at k holds the literal
pub record Holds (live : Live) (l : Literal) (k : ℕ) : Type 0 where
  pub clause : Clause
  pub at : live k ≡ Some clause
  pub member : IsTrue (has clause l)

-- different identifiers of clauses that hold the literal
pub record AllHold (live : Live) (l : Literal) (ids : List ℕ) : Type 0 where
  pub different : IsDistinct nat_eq ids
  pub each : (k : ℕ) → IsTrue (has ids k) → Holds live l k
