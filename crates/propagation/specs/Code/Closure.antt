-- How the least set of what follows with nothing assumed is found, past a clash too.
use Rattle.std.specs.Prelude.{◌≡◌, ℕ, List, Some, IsTrue, [], take}
use Rattle.cnf_base.specs.Literals.{Literal, Clause, has}
use Rattle.theory.specs.Code.Propagation.{OthersFail}
use Rattle.theory.specs.Propagation.{Live, Forced}

-- the literal is one of the list, or follows from the clause by the unit rule
pub data FollowsFrom (lits : List Literal) (c : Clause) (l : Literal) : Type 0 where
  is_old : IsTrue (has lits l) → FollowsFrom lits c l
  by_unit : IsTrue (has c l) → OthersFail (has lits) c l → FollowsFrom lits c l

-- what follows from the clause by literals of one list is in another
abbrev pub TakesIn : List Literal → List Literal → Clause → Type 0
TakesIn lits found c = (m : Literal) → IsTrue (has c m) → OthersFail (has lits) c m →
    IsTrue (has found m)

-- all of them follow with nothing assumed
abbrev pub AreForced : Live → List Literal → Type 0
AreForced live lits = (l : Literal) → IsTrue (has lits l) → Forced live [] l

-- they all follow, and what follows from a clause by those before the place is among them
pub record IsFollowed (live : Live) (done : ℕ) (lits : List Literal) : Type 0 where
  pub sound : AreForced live lits
  pub takes : (k : ℕ) (c : Clause) → live k ≡ Some c → TakesIn (take done lits) lits c
