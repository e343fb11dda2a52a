use Rattle.std.proofs.Common.{arith}
use Rattle.ids.{specs.Code.Cache.cached_at, proofs.IdLemmas.Cache.none_in_free}
use Rattle.ids.proofs.cache.Cache.with_len.Goals as goal

pub returns : goal.returns
unfolding cached_at
returns c k = grind (arith, none_in_free)
