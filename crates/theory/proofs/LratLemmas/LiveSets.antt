-- Live clauses that are the same sets.
use Rattle.cnf_base.{proofs.SetLemmas.each_all, specs.Literals.{Clause, same_clause}}
use Rattle.std.proofs.{Common.{Option, rules, true, ℕ, ◌≡◌}, lemmas.Bool.and_from}
use Rattle.theory.{proofs.LratLemmas.SameSets.same_set_from, specs.Lrat.{SameAt, SameClauses}}
use Rattle.theory.specs.{Propagation.Live, Sets.SameSet}

pub same_clause_from : (c d : Clause) → SameSet c d → same_clause c d ≡ true
same_clause_from c d same = search (rules, and_from, each_all)

same_at_refl : (o : Option Clause) → SameAt o o
same_at_refl o = search (rules, same_clause_from)

same_at_trans : (a b d : Option Clause) → SameAt a b → SameAt b d → SameAt a d
same_at_trans a b d h h2 = search (rules, same_clause_from, same_set_from)

pub SameClauses-refl : (live : Live) → SameClauses live live
SameClauses-refl live = record { at = λ k. same_at_refl (live k) }

pub SameClauses-sym : (first second : Live) → SameClauses first second → SameClauses second first
SameClauses-sym first second same = search rules

pub SameClauses-trans : (first second third : Live) → SameClauses first second
    → SameClauses second third → SameClauses first third
SameClauses-trans first second third same also =
    record { at = λ k. same_at_trans (first k) (second k) (third k) (same.at k) (also.at k) }

pub SameClauses-eq : (first second : Live) → ((k : ℕ) → first k ≡ second k)
    → SameClauses first second
SameClauses-eq first second same = search (rules, same_at_refl)
