-- What is seen of `Scan`.
use Rattle.std.specs.Prelude.{ℕ}
use Rattle.propagation.specs.Assumptions.{Propagation}

-- what is seen of any propagation, and how many slots its clauses stand in, free ones too
pub record ScanState : Type 0 where
  pub propagation : Propagation
  pub slots : ℕ
