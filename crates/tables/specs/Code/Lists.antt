-- Lists that have moved, or got an entry.
use Rattle.std.specs.Prelude.{ℕ, ◌≡◌, ◌+◌, ◌++◌, ◌∷◌, [], ◌==◌, if◌then◌else◌, IsTrue, Result}
use Rattle.std.specs.Prelude.{OnOk, OnErr}
use Rattle.tables.specs.Lists.{entries_in, has_list_at, list_at}
use Rattle.tables.specs.declared.lists.Lists.{Lists}

-- each key that had a list has one, with the entries that it had, wherever it is
pub record AreSame {T : Type 0} (before after : Lists T) : Type 0 where
  pub lists : (k : ℕ) → list_at after k ≡ list_at before k
  pub entries : entries_in after ≡ entries_in before
  pub known : (k : ℕ) → IsTrue (has_list_at before k) → IsTrue (has_list_at after k)

-- the entry was put at the end of the list of the key, or else no list has changed
pub record Pushes {T E : Type 0} (before after : Lists T) (key : ℕ) (entry : T)
    (result : Result Unit E) : Type 0 where
  pub ok : OnOk result ((k : ℕ) → list_at after k ≡
      (if k == key then list_at before k ++ entry ∷ [] else list_at before k))
  pub more : OnOk result (entries_in after ≡ entries_in before + 1)
  pub err : OnErr result ((k : ℕ) → list_at after k ≡ list_at before k)
  pub as_many : OnErr result (entries_in after ≡ entries_in before)
  pub known : (k : ℕ) → IsTrue (has_list_at before k) → IsTrue (has_list_at after k)
