-- What holds of the literals that are true between two calls of `Scan`.
use Rattle.std.specs.FinMap as maps
use Rattle.std.specs.FinMap.{FinMap}
use Rattle.std.specs.Ordering.{nat_cmp}
use Rattle.std.specs.Prelude.{List, Result, IfOk, OnErr, ◌≡◌, ◌++◌, []}
use Rattle.cnf_base.specs.Literals.{Literal, Clause}
use Rattle.propagation.specs.Assumptions.{Assumes, AssumptionsState, IsAnswer, assumed_by}
use Rattle.propagation.specs.Code.Exact.{AreExact}
use Rattle.propagation.specs.declared.answer.Answer.{Answer}
use Rattle.trail.specs.Trail.{HasRoomForAll}

-- there is room for all live clauses, and after an assumption just what is forced is true; `Roots`
-- holds of what is true with nothing assumed
pub record IsHeld (live : FinMap nat_cmp Clause) (Roots : List Literal → Type 0)
    (held : AssumptionsState) : Type 0 where
  pub room : HasRoomForAll held.trail.reserved (maps.get live)
  pub exact : AreExact (maps.get live) Roots held.trail.lits held.assumptions held.starts

-- so it is, and nothing is true where nothing is assumed
abbrev pub IsScan : FinMap nat_cmp Clause → AssumptionsState → Type 0
IsScan live held = IsHeld live (λ lits. lits ≡ []) held

-- these literals are assumed too and the answer is that of propagation on the clauses, or memory
-- was refused and the assumptions stay
pub record AssumesOn {E : Type 0} (live : FinMap nat_cmp Clause) (before after : AssumptionsState)
    (added : List Literal) (result : Result Answer E) : Type 0 where
  pub answer : IfOk result
      (λ a. IsAnswer (maps.get live) (assumed_by before.assumptions ++ added) a)
  pub stands : IfOk result
      (λ a. Assumes before.assumptions after.assumptions a (assumed_by before.assumptions ++ added))
  pub stays : OnErr result (after.assumptions ≡ before.assumptions)
