-- Short names of what the lemmas speak of.
use Rattle.{cnf_base.specs.Literals.{Clause, Literal, has, same_clause}, std.proofs.Common.List}
use Rattle.std.{proofs.Common.{Some, nat_cmp, slice_get, true, ℕ, ◌≡◌}, specs.FinMap.FinMap}
use Rattle.theory.specs.Propagation.{Live}
use Rattle.std.specs.FinMap as maps

-- the live clauses in their slots, and as a list
abbrev pub Clauses : Type 0
Clauses = FinMap nat_cmp Clause

abbrev pub listed : Clauses → Live
listed live = slice_get (maps.values live)

-- the slot has the clause, however it is written there
abbrev pub IsFound : Clauses → ℕ → Clause → Type 0
IsFound live slot lits =
    (c : Clause) × (maps.get live slot ≡ Some c) × (same_clause c lits ≡ true)

abbrev pub AllIn : List Literal → List Literal → Type 0
AllIn first second = (l : Literal) → has first l ≡ true → has second l ≡ true

abbrev pub Shares : List Literal → List Literal → Type 0
Shares first second = (l : Literal) × (has first l ≡ true) × (has second l ≡ true)
