use Rattle.{ids.{proofs.IdLemmas.Cache.put_in, specs.Code.Cache.cached_at}, std.proofs.Common.arith}
use Rattle.ids.proofs.cache.Cache.put.Goals as goal

pub returns-then-line-eq0-clause-put : goal.returns-then-line-eq0-clause-put
unfolding cached_at
returns-then-line-eq0-clause-put c = grind (arith, put_in)
