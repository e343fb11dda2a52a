-- An entry of a watch list (our own profile).
use Rattle.std.specs.Prelude.{ℕ, Bool}
use Rattle.cnf_base.specs.Literals.{Literal}

-- the slot of a clause, a literal of it, and whether it is binary, that is, has just two literals
pub record Entry : Type 0 where
  pub slot : ℕ
  pub blocking : Literal
  pub is_binary : Bool
