-- What propagation keeps, and what it needs to make literals true.
use Rattle.std.specs.FinMap as maps
use Rattle.std.specs.FinMap.{FinMap}
use Rattle.std.specs.Ordering.{nat_cmp}
use Rattle.std.specs.Prelude.{List, IsTrue, IsFalse, ◌≡◌, ◌≢◌, ℕ, Option, IsSome}
use Rattle.cnf_base.specs.Literals.{Literal, has, complement, Clause}
use Rattle.theory.specs.Propagation.{Forced}
use Rattle.trail.specs.Trail.{HasRoomForAll}
use Rattle.propagation.specs.Assumptions.{AssumptionsState}
use Rattle.propagation.specs.Code.Exact.{Extends}
use Rattle.watch_lists.specs.Watched.{unit_for}
use Rattle.root_literals.specs.History.{sure_of}
use Rattle.root_literals.specs.Order.{each_in_order}
use Rattle.root_literals.specs.Roots.{AreNoted, AreReasoned}
use Rattle.root_literals.specs.Watched.{IsPart, IsWatched}

-- all literals of the clause but this one are false, and this one isn't
abbrev pub IsUnit : List Literal → Clause → Literal → Type 0
IsUnit trues c m =
    IsTrue (has c m) × IsFalse (has trues (complement m))
    × ((k : Literal) → IsTrue (has c k) → k ≢ m → IsTrue (has trues (complement k)))

-- all literals of the clause are false
abbrev pub AreFalse : List Literal → Clause → Type 0
AreFalse trues c = (k : Literal) → IsTrue (has c k) → IsTrue (has trues (complement k))

-- the clauses are the same but for the order of their literals, what was watched still is, and more
-- literals are true, all forced, each by a reason
pub record PropagatesTo (before after : FinMap nat_cmp Clause) (held now : AssumptionsState)
    (reason_of reason_now : Literal → Option ℕ) : Type 0 where
  pub same : each_in_order after ≡ each_in_order before
  pub units : (s : ℕ) → unit_for (maps.get after s) ≡ unit_for (maps.get before s)
  pub kept : (doubts : List ℕ) (done trues : List Literal) → IsPart done held.trail.lits →
      IsPart trues held.trail.lits → IsWatched (sure_of doubts (maps.get before)) done trues →
      IsWatched (sure_of doubts (maps.get after)) done trues
  pub sound : (l : Literal) → IsTrue (has now.trail.lits l) →
      Forced (maps.get (each_in_order before)) held.trail.lits l
  pub extends : Extends held now
  pub noted : (l : Literal) → IsSome (reason_of l) → IsSome (reason_now l)
  pub as_before : (l : Literal) → IsTrue (has held.trail.lits l) → reason_now l ≡ reason_of l
  pub reasoned : AreReasoned (maps.get (each_in_order before)) reason_of held.trail.lits →
      AreReasoned (maps.get (each_in_order before)) reason_now now.trail.lits

-- there is room for all literals of the clauses to become true, and for the reason of each
pub record CanSet (live : FinMap nat_cmp Clause) (held : AssumptionsState)
    (reason_of : Literal → Option ℕ) : Type 0 where
  pub room : HasRoomForAll held.trail.reserved (maps.get (each_in_order live))
  pub noted : AreNoted (maps.get (each_in_order live)) reason_of
