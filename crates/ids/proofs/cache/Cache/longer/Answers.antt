use Rattle.std.proofs.Common.{arith}
use Rattle.ids.{specs.Code.Cache.cached_at, proofs.IdLemmas.Cache.moved_all}
use Rattle.ids.proofs.cache.Cache.longer.Goals as goal

pub returns : goal.returns
unfolding cached_at
returns c = grind (arith, moved_all)
