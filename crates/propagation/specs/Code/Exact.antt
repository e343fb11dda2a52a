-- What a propagation keeps of the literals that are true: they are the forced ones.
use Rattle.std.specs.Prelude.{List, IsTrue, ◌≡◌, ℕ, [], ◌∷◌, take, ◌≤◌, length}
use Rattle.cnf_base.specs.Literals.{Literal, has}
use Rattle.theory.specs.Propagation.{Live, IsClosed, Forced}
use Rattle.theory.specs.Sets.{SameSet}
use Rattle.propagation.specs.Assumptions.{Assumption, AssumptionsState}
use Rattle.propagation.specs.declared.answer.Answer.TheVariants.{Quiet}

-- the true literals are a closed set that has the assumed ones, and all of them are forced
pub record IsExact (live : Live) (assumed trues : List Literal) : Type 0 where
  pub sound : (l : Literal) → IsTrue (has trues l) → Forced live assumed l
  pub start : (l : Literal) → IsTrue (has assumed l) → IsTrue (has trues l)
  pub closed : IsClosed live (λ l. has trues l)

-- so it is after each assumption that was quiet, where `starts` says how many literals were true
-- before it; `Roots` holds of those that are true with nothing assumed
abbrev pub AreExact : Live → (List Literal → Type 0) → List Literal → List Assumption → List ℕ →
    Type 0
AreExact live Roots lits [] starts = Roots lits
AreExact live Roots lits (last ∷ rest) [] = ⊥
AreExact live Roots lits (last ∷ rest) (start ∷ starts) =
    (last.answer ≡ Quiet → IsExact live last.assumed lits)
    × AreExact live Roots (take start lits) rest starts

-- further literals are true, and nothing else is changed
pub record Extends (before after : AssumptionsState) : Type 0 where
  pub begins : take (length before.trail.lits) after.trail.lits ≡ before.trail.lits
  pub longer : length before.trail.lits ≤ length after.trail.lits
  pub reserved : SameSet after.trail.reserved before.trail.reserved
  pub assumptions : after.assumptions ≡ before.assumptions
  pub starts : after.starts ≡ before.starts
