-- One value at the keys of literals and of their complements, written one after the other.
use Rattle.cnf_base.proofs.{LiteralLemmas.complement-complement, WalkLemmas.has_more}
use Rattle.{cnf_base.specs.Literals.{complement, has}, std.proofs.Common.{Bool, List, arith, cond}}
use Rattle.std.proofs.Common.{eqb, false, get_or, length, ne_eqb, take, ℕ, ◌+◌, ◌<◌, ◌||◌, ◌≡◌}
use Rattle.tables.specs.ByKey.{is_of}

module _ {T : Type 0} (value : T) (c : List ℕ) (i : ℕ) (inside : i < length c) (x : ℕ)
    (is : x ≡ get_or c i x) (was before one after : ℕ → T) where
  or_nothing : (b : Bool) → (b || false) ≡ b
  or_nothing b = grind arith

  more : (l : ℕ) → has (take (i + 1) c) l ≡ (has (take i c) l || eqb x l)
  more = has_more c i inside x is

  pub written_more : ((k : ℕ) → before k ≡ cond (is_of (take i c) k) value (was k))
      → ((k : ℕ) → one k ≡ cond (eqb k x) value (before k))
      → ((k : ℕ) → after k ≡ cond (eqb k (complement x)) value (one k))
      → (k : ℕ) → after k ≡ cond (is_of (take (i + 1) c) k) value (was k)
  written_more so_far first second k =
      grind (arith, more, complement-complement, ne_eqb, or_nothing)
