-- What the judge of an LRAT session needs between calls.
use Rattle.std.specs.Prelude.{◌≡◌, []}
use Rattle.theory.specs.Propagation.{Live}
use Rattle.trail.specs.Trail.{TrailState, HasRoomForAll}

-- nothing is true, and there is room for all that may become true
pub record IsReady (live : Live) (trues : TrailState) : Type 0 where
  pub none_true : trues.lits ≡ []
  pub room : HasRoomForAll trues.reserved live
