-- The occurrences that a store keeps.
use Rattle.std.specs.FinMap as maps
use Rattle.std.specs.FinMap.{FinMap}
use Rattle.std.specs.Ordering.{nat_cmp}
use Rattle.std.specs.Prelude.{◌≡◌, ℕ, ◌<◌, Bool, false, Option, Some, None, IsSome, ⊤}
use Rattle.cnf_base.specs.Literals.{Literal, Clause, has}
use Rattle.occurrences.specs.Occurrences.{occurs}
use Rattle.occurrences.specs.declared.by_literal.Occurrences.{Occurrences}

-- whether there is a clause, and it has the literal
abbrev pub has_in : Option Clause → Literal → Bool
has_in None l = false
has_in (Some c) l = has c l

-- they are those of the literals in the clauses, whose slots have four bytes
pub record AreOf (o : Occurrences) (live : FinMap nat_cmp Clause) : Type 0 where
  pub exact : (l s : ℕ) → occurs o l s ≡ has_in (maps.get live s) l
  pub low : (s : ℕ) → IsSome (maps.get live s) → s < 4294967296

-- where they are kept, they are
abbrev pub AreKept : Option Occurrences → FinMap nat_cmp Clause → Type 0
AreKept None live = ⊤
AreKept (Some o) live = AreOf o live
