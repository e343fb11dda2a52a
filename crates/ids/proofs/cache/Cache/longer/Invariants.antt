use Rattle.std.proofs.Common.{◌≡◌, ℕ}
use Rattle.ids.{specs.Code.Cache.cached_at, proofs.IdLemmas.Cache.moved_to}
use Rattle.ids.proofs.cache.Cache.longer.Given as goal

abbrev pub invariant-loop-i : goal.invariant-loop-i
invariant-loop-i l = (k : ℕ) → cached_at l.longer k ≡ moved_to l.self.lines.items l.self.mask l.i k
