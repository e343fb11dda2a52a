-- A run of a source, as what was seen of its reader.
use Rattle.cnf_base.specs.Seen.{IsSeen, Seen}
use Rattle.cnf_base.specs.Stream.{Input, Reader}

-- What a run saw of a reader, and a fact of each input that this may be.
pub record OfSeen (old new : Reader) (Fact : Input → Type 0) : Type 0 where
  pub seen : Seen old new
  pub fact : (i : Input) → IsSeen seen i → Fact i
