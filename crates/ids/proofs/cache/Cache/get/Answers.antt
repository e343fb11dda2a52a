use Rattle.ids.{proofs.IdLemmas.Cache.among_line, specs.Code.Cache.cached_at}
use Rattle.std.proofs.Common.{arith}
use Rattle.ids.proofs.cache.Cache.get.Goals as goal

pub returns : goal.returns
unfolding cached_at
returns c = grind (arith, among_line)
