-- The entries of the lists, and when they count.
use Rattle.std.specs.Prelude.{ℕ, ◌==◌, ◌&&◌, Bool, unwrap_or}
use Rattle.tables.specs.ByKey.{at}
use Rattle.tables.specs.declared.by_key.ByKey.{ByKey}
use Rattle.occurrences.specs.declared.occurrence.Occurrence.{Occurrence}

-- how often a slot was forgotten
abbrev pub births_of : ByKey ℕ → ℕ → ℕ
births_of births s = unwrap_or (at births s) 0

-- whether the entry's slot wasn't forgotten since the entry was made
abbrev pub counts : ByKey ℕ → Occurrence → Bool
counts births e = births_of births e.slot == e.birth

-- whether it is of the slot, and counts
abbrev pub is_of : ByKey ℕ → ℕ → Occurrence → Bool
is_of births s e = e.slot == s && counts births e
