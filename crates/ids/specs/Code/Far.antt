-- Numbers by keys that may be far apart, where 0 is nothing.
use Rattle.std.specs.BTreeMap.{BTreeMap, get}
use Rattle.std.specs.Ordering.{nat_cmp}
use Rattle.std.specs.Prelude.{ℕ, unwrap_or}

-- the number at a far key, or 0
abbrev pub far_at : BTreeMap ℕ ℕ → ℕ → ℕ
far_at far key = unwrap_or (get nat_cmp far key) 0
