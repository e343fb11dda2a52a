-- Room for further keys.
use Rattle.std.specs.Prelude.{ℕ, ◌≡◌, unwrap_or, IsSome}
use Rattle.tables.specs.ByKey.{at}
use Rattle.tables.specs.declared.by_key.ByKey.{ByKey}

-- each key that had a value has it, and others may have got this one
pub record IsWidened {T : Type 0} (first : T) (before after : ByKey T) : Type 0 where
  pub same : (k : ℕ) → unwrap_or (at after k) first ≡ unwrap_or (at before k) first
  pub kept : (k : ℕ) → IsSome (at before k) → IsSome (at after k)
