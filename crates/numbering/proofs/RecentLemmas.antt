-- Names that were looked up last, as further variables are met.
use Rattle.std.proofs.Common.{◌≡◌, ℕ, cond, eqb, rules}
use Rattle.numbering.specs.{Code.Recents.AreRecent, declared.recent.Recents.Recents}

pub recent_more : (f g : ℕ → ℕ) (w n : ℕ) (r : Recents) → f w ≡ 0 → ((v : ℕ) → g v ≡ cond (eqb v w) n (f v)) → AreRecent f r → AreRecent g r
recent_more f g w n r none writes are = search rules
