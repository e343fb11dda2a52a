-- The unit rule by the literals of clauses that are not false: what follows, and where nothing more
-- does.
use Rattle.{cnf_base.specs.Literals.{Clause, Literal, complement, has}, std.proofs.Common.List}
use Rattle.std.proofs.Common.{Some, [], ap, arith, false, inl, inr, rules, sym, true, ℕ, ◌∙◌, ◌≡◌}
use Rattle.std.proofs.lemmas.Bool.{cases_eq, false≢true, true≢false}
use Rattle.theory.proofs.PropagationLemmas.Conflicts.{conflict_from, conflicts_some}
use Rattle.theory.proofs.PropagationLemmas.{Forced.{clash_by_false, forced_unit}, Open.AreAll}
use Rattle.theory.proofs.PropagationLemmas.Open.{IsAlone, open_cases, open_has}
use Rattle.theory.specs.{Code.Propagation.{IsClosedAt, OthersFail}, Propagation.{Clash, Forced}}
use Rattle.theory.specs.{Propagation.{IsClosed, Live, by_both, open_literals}, Sets.conflicts}

-- ---- One clause

module _ (ls : List Literal) (c : Clause) where
  none_open : open_literals ls c ≡ [] → (l : Literal) → has c l ≡ true → has ls (complement l)
      ≡ true
  none_open e l member = elim (open_cases ls c l member) [
    | inl h ↦ absurd (false≢true (sym (ap (λ os. has os l) e) ∙ h))
    | inr h ↦ h
  ]

  -- where all its literals are false, each of them follows
  pub none_left_follow : open_literals ls c ≡ [] → (m : Literal) → OthersFail (has ls) c m
  none_left_follow e m l member ne = none_open e l member

  -- where one alone is not false, it follows
  pub one_left_follows : (m : Literal) → IsAlone (open_literals ls c) m
      → (has c m ≡ true) × OthersFail (has ls) c m
  one_left_follows m only = search (rules, open_has, open_cases)

  open_is : (m : Literal) → OthersFail (has ls) c m → AreAll (open_literals ls c) m
  open_is m others l h = search (rules, open_has, cases_eq, true≢false)

  -- a true literal keeps the unit rule, and so do two different ones that are not false
  pub true_closes : (l : Literal) → has (open_literals ls c) l ≡ true → has ls l ≡ true
      → IsClosedAt (has ls) c
  true_closes l left h m member others = sym (ap (has ls) (open_is m others l left)) ∙ h

  pub two_close : ((m : Literal) → ¬ AreAll (open_literals ls c) m) → IsClosedAt (has ls) c
  two_close differ m member others = absurd (differ m (open_is m others))

-- ---- What follows

module _ (live : Live) (assumed : List Literal) where
  pub clash_of_conflict : (ls : List Literal) → ((a : Literal) → has ls a ≡ true → Forced live assumed a) → conflicts ls ≡ true → Clash live assumed
  clash_of_conflict ls forced h = let w = conflicts_some ls h in by_both w.0 (forced w.0 w.1)
      (forced (complement w.0) w.2)

  module _ (ls : List Literal) (forced : (a : Literal) → has ls a ≡ true → Forced live assumed a)
      (k : ℕ) (c : Clause) (at : live k ≡ Some c) where
    pub left_is_forced : (m : Literal) → IsAlone (open_literals ls c) m → Forced live assumed m
    left_is_forced m only = search (rules, one_left_follows, forced_unit)

    pub none_left_clashes : open_literals ls c ≡ [] → Clash live assumed
    none_left_clashes e = search (rules, clash_by_false, none_open)

-- ---- Where nothing more follows

-- where no two of the literals clash either, nothing does
pub closed_quiet : (live : Live) (ls : List Literal) → IsClosed live (has ls)
    → ((k : ℕ) → live k ≡ Some [] → ⊥) →
    (assumed : List Literal) → ((a : Literal) → has assumed a ≡ true → has ls a ≡ true)
    → conflicts ls ≡ false → Clash live assumed → ⊥
closed_quiet live ls closed some assumed start quiet h = grind (arith, true≢false, conflict_from)
