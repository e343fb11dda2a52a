-- The counts by literal that a store keeps.
use Rattle.std.specs.FinMap.{FinMap}
use Rattle.std.specs.Ordering.{nat_cmp}
use Rattle.std.specs.Prelude.{◌≡◌, ℕ, Option, Some, None, ⊤}
use Rattle.cnf_base.specs.Literals.{Clause, Literal}
use Rattle.clause_db.specs.Store.{copies_with}
use Rattle.tables.specs.ByKey.{at}
use Rattle.tables.specs.declared.by_key.ByKey.{ByKey}

-- how often a literal is counted
abbrev pub count_of : Option ℕ → ℕ
count_of None = 0
count_of (Some count) = count

-- where they are kept, each is that of the clauses with the literal
abbrev pub AreCounted : Option (ByKey ℕ) → FinMap nat_cmp Clause → Type 0
AreCounted None live = ⊤
AreCounted (Some counts) live = (l : Literal) → count_of (at counts l) ≡ copies_with live l
