-- What is seen of `Watch`.
use Rattle.std.specs.Prelude.{ℕ, Bool, List}
use Rattle.cnf_base.specs.Literals.{Literal}
use Rattle.propagation.specs.Assumptions.{Propagation}

-- What contracts see of `Watch`: what is seen of any propagation; how many slots
-- its clauses stand in, free ones too; how many entries all watch lists
-- have, and the list of the clauses of one literal and of none (`unit_entries`); how many literals
-- are true, and how many variables were reserved; the literals that are kept as true with nothing
-- assumed, whether the watch lists are still to be made, whether these literals are known to be all
-- or a clash is known, and whether a clash is.
pub record WatchState : Type 0 where
  pub propagation : Propagation
  pub slots : ℕ
  pub entries : ℕ
  pub unit_entries : ℕ
  pub trues : ℕ
  pub variables : ℕ
  pub roots : List Literal
  pub is_loading : Bool
  pub is_up_to_date : Bool
  pub has_conflict : Bool
