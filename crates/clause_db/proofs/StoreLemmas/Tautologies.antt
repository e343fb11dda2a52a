-- Literals and their complements among the first of a clause.
use Rattle.{clause_db.specs.Store.is_tautology, cnf_base.proofs.LiteralLemmas.complement-complement}
use Rattle.cnf_base.proofs.{LiteralLemmas.complement-other, SetLemmas.{any_from, any_some}}
use Rattle.cnf_base.{proofs.WalkLemmas.has_more, specs.Literals.{Clause, Literal, complement, has}}
use Rattle.std.proofs.Common.{arith, eqb-true, false, get_or, inl, inr, length, take, true, ℕ, ◌+◌}
use Rattle.std.proofs.{Common.{◌<◌, ◌≡◌, ◌⊎◌}, lemmas.Bool.false_from_ne_true}

module _ (c : Clause) (i : ℕ) (inside : i < length c) (x : Literal) (is : x ≡ get_or c i x) where
  among : (k : Literal) → has (take (i + 1) c) k ≡ true → (has (take i c) k ≡ true) ⊎ (x ≡ k)
  among k h = grind (arith, has_more c i inside x is k, eqb-true)

  pub none_so_far : is_tautology (take i c) ≡ false → has (take i c) (complement x) ≡ false
      → is_tautology (take (i + 1) c) ≡ false
  none_so_far none new = false_from_ne_true (is_tautology (take (i + 1) c)) (λ both.
      let w = any_some (λ l. has (take (i + 1) c) (complement l)) (take (i + 1) c) both in
      elim (among w.0 w.1) [
        | inl a ↦ grind (arith, among, any_from, complement-complement)
        | inr e ↦ grind (arith, among, complement-other)
      ])
