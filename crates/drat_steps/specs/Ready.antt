-- What the steps of DRAT need of the clauses, and leave.
use Rattle.std.specs.Prelude.{◌≡◌, ℕ, List, [], ◌⊎◌, IsTrue, IsFalse}
use Rattle.cnf_base.specs.Literals.{Literal, Clause, has}
use Rattle.propagation.specs.Assumptions.{HoldsLiveAlone, Propagation}
use Rattle.trail.specs.LiteralSet.{in_set}
use Rattle.trail.specs.declared.literal_set.LiteralSet.{LiteralSet}

-- nothing is assumed, and no literals are kept but those of the live clauses
pub record IsIdle (clauses : Propagation) : Type 0 where
  pub nothing_assumed : clauses.assumptions ≡ []
  pub live_alone : HoldsLiveAlone clauses

-- of what a step was judged with, no slot and no literal is kept
pub record IsEmptied (slots : List ℕ) (rest : List Literal) (looked_at witness : LiteralSet)
    : Type 0 where
  pub no_slots : slots ≡ []
  pub no_rest : rest ≡ []
  pub none_looked_at : (l : Literal) → IsFalse (in_set looked_at l)
  pub no_witness : (l : Literal) → IsFalse (in_set witness l)

-- an addition of the clause lists no witness, or one that has a literal of the clause
abbrev pub MeetsIfListed : Clause → List Literal → Type 0
MeetsIfListed clause witness =
    (witness ≡ []) ⊎ ((l : Literal) × IsTrue (has clause l) × IsTrue (has witness l))
