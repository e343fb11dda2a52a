-- Lists by key.
use Rattle.std.specs.BTreeMap.{get, values}
use Rattle.std.specs.Global.{Global}
use Rattle.std.specs.Ordering.{nat_cmp}
use Rattle.std.specs.Prelude.{ℕ, ◌+◌, ◌||◌, Bool, nat_lt, is_some, Option, Some, None}
use Rattle.std.specs.Prelude.{List, [], Vec, length, sum_by, slice_get}
use Rattle.tables.specs.declared.lists.Lists.{Lists}

-- the entries of a list, or else these
abbrev pub items_or : {T : Type 0} → Option (Vec T Global) → List T → List T
items_or None rest = rest
items_or (Some list) rest = list.items

-- the entries of the list of a far key
abbrev pub far_at : {T : Type 0} → Lists T → ℕ → List T
far_at lists k = items_or (get nat_cmp lists.far k) []

-- the entries of the list of a key
abbrev pub list_at : {T : Type 0} → Lists T → ℕ → List T
list_at lists k = items_or (slice_get lists.near.items k) (far_at lists k)

-- whether a key has a list
abbrev pub has_list_at : {T : Type 0} → Lists T → ℕ → Bool
has_list_at lists k = nat_lt k (length lists.near.items) || is_some (get nat_cmp lists.far k)

-- how many entries these have in all
abbrev pub total : {T : Type 0} → List (Vec T Global) → ℕ
total lists = sum_by (λ list. length list.items) lists

-- how many all lists have; each field has to be named here
abbrev pub entries_in : {T : Type 0} → Lists T → ℕ
entries_in lists =
    let record { alloc = _; near = near; far = far } = lists in
    total near.items + total (values far)
