use Rattle.ids.{proofs.IdLemmas.Cache.{cleared, not_cleared}, specs.Code.Cache.cached_at}
use Rattle.std.proofs.Common.{arith}
use Rattle.ids.proofs.cache.Cache.clear.Goals as goal

pub returns-then-from-number : goal.returns-then-from-number
unfolding cached_at
returns-then-from-number c = grind (arith, cleared)

pub returns-else-from-number : goal.returns-else-from-number
unfolding cached_at
returns-else-from-number c = grind (arith, not_cleared)
