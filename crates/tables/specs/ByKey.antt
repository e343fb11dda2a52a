-- The value that a key has.
use Rattle.std.specs.BTreeMap.{BTreeMap, get}
use Rattle.std.specs.Option.{option_or}
use Rattle.std.specs.Ordering.{nat_cmp}
use Rattle.std.specs.Prelude.{ℕ, Bool, List, Option, slice_get, IsTrue, IsSome, ◌||◌}
use Rattle.cnf_base.specs.Literals.{Literal, complement, has}
use Rattle.tables.specs.declared.by_key.ByKey.{ByKey}

-- the value that is near, or else the one that lies far
abbrev pub value_in : {T : Type 0} → List T → BTreeMap ℕ T → ℕ → Option T
value_in near far k = option_or (slice_get near k) (get nat_cmp far k)

-- the value at the key; each field has to be named here
unfoldable pub at : {T : Type 0} → ByKey T → ℕ → Option T
at values k = let record { near = near; far = far } = values in value_in near.items far k

-- whether the key is that of one of these literals or of its complement
abbrev pub is_of : List Literal → ℕ → Bool
is_of lits k = has lits k || has lits (complement k)

-- each of these literals has a value, and so has its complement
abbrev pub HaveRoom : {T : Type 0} → (ℕ → Option T) → List Literal → Type 0
HaveRoom value_of lits =
    (l : ℕ) → IsTrue (has lits l) → IsSome (value_of l) × IsSome (value_of (complement l))
