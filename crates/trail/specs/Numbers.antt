-- Numbers that are noted by literal or by variable.
use Rattle.std.specs.Prelude.{ℕ, unwrap_or}
use Rattle.tables.specs.ByKey.{at}
use Rattle.tables.specs.declared.by_key.ByKey.{ByKey}

-- the number that was noted last; 0 where none was
abbrev pub number_at : ByKey ℕ → ℕ → ℕ
number_at numbers v = unwrap_or (at numbers v) 0
