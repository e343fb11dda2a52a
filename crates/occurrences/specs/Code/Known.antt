-- What is so of the entries of each list.
use Rattle.std.specs.List.{list_any, list_all}
use Rattle.std.specs.Prelude.{◌≡◌, ℕ, ◌&&◌, nat_le, List, Bool, true, is_some}
use Rattle.tables.specs.ByKey.{at}
use Rattle.tables.specs.declared.by_key.ByKey.{ByKey}
use Rattle.occurrences.specs.Entries.{births_of, is_of}
use Rattle.occurrences.specs.declared.occurrence.Occurrence.{Occurrence}

-- whether it is noted how often the entry's slot was forgotten, and the entry wasn't made later
abbrev pub is_known : ByKey ℕ → Occurrence → Bool
is_known births e =
    is_some (at births e.slot) && nat_le e.birth (births_of births e.slot)

-- the same slots occur in both lists, and the second has no entry that isn't known
pub record AreAlike (births : ByKey ℕ) (xs ys : List Occurrence) : Type 0 where
  pub occurs : (s : ℕ) → list_any (is_of births s) ys ≡ list_any (is_of births s) xs
  pub known : list_all (is_known births) xs ≡ true → list_all (is_known births) ys ≡ true
