-- Clauses that are put into other slots one after the other are the same clauses.
use Rattle.clause_db.proofs.StoreLemmas.Below.{below, below_all, below_next, below_none, below_same}
use Rattle.clause_db.{proofs.StoreLemmas.Below.gone, specs.Store.slots_for}
use Rattle.cnf_base.proofs.{MapLemmas.{inserted_is, sum_insert}, SetLemmas.{both_pass, same_back}}
use Rattle.cnf_base.proofs.{SetLemmas.{same_symm, same_there, same_trans}, SizeLemmas.size_same}
use Rattle.cnf_base.specs.{Literals.{Clause, same_clause, size}, Maps.sum_over}
use Rattle.propagation.specs.{Assumptions.Propagation, Slots.{most_slots, slots_needed}}
use Rattle.std.proofs.Common.{IsSome, List, None, Some, [], ap, arith, cond, false, nat_le, rules}
use Rattle.std.proofs.Common.{sum_by, true, ℕ, ◌*◌, ◌+◌, ◌<◌, ◌∙◌, ◌∷◌, ◌≡◌, ◌≢◌, ◌≤◌}
use Rattle.std.{proofs.lemmas.{Bool.{cases_lt, lt-leb}, List.Sums.sum_by-cons}, specs.FinMap.FinMap}
use Rattle.{std.specs.Ordering.nat_cmp, theory.specs.Drat.SameLive}
use Rattle.std.specs.FinMap as maps

-- what a clause counts as a copy of `e`
abbrev pub is_copy : Clause → Clause → ℕ
is_copy e c = cond (same_clause e c) 1 0

pub same_copy : (e c d : Clause) → same_clause c d ≡ true → is_copy e c ≡ is_copy e d
same_copy e c d same = grind (arith, both_pass, same_trans, same_symm)

-- the same clauses, by how many copies there are of each
abbrev pub AreCopies : FinMap nat_cmp Clause → FinMap nat_cmp Clause → Type 0
AreCopies m n = (e : Clause) → sum_over (is_copy e) m ≡ sum_over (is_copy e) n

-- ---- What was put into other slots so far

pub copied_next : (old new m : FinMap nat_cmp Clause) (slot n : ℕ) (c d : Clause) → maps.get m n ≡ Some c → maps.get old slot ≡ None → maps.get new slot ≡ Some d → same_clause d c ≡ true
    → ((s : ℕ) → s ≢ slot → maps.get new s ≡ maps.get old s) → AreCopies old (below n m) → AreCopies new (below (n + 1) m)
copied_next old new m slot n c d is free at same others so_far e =
    cc (inserted_is old new slot d at others, sum_insert (is_copy e) old slot d free, same_copy e d c same, so_far e, below_next n m c is, sum_insert (is_copy e) (below n m) n c (gone n m n (omega arith)))

-- ---- How many slots they need

-- one clause more needs its slots
pub needs_more : (old new : FinMap nat_cmp Clause) (slot before after : ℕ) (c d : Clause)
    → maps.get old slot ≡ None → maps.get new slot ≡ Some d → same_clause d c ≡ true
    → ((s : ℕ) → s ≢ slot → maps.get new s ≡ maps.get old s) → before ≤ slots_needed old
    → after ≤ before + slots_for (size c) → after ≤ slots_needed new
needs_more old new slot before after c d free at same others few more =
    let as_many : size d ≡ size c = grind (arith, size_same, same_there, same_back) in
    let needs = ap slots_needed (inserted_is _ _ _ _ at others)
    ∙ sum_insert (λ x. slots_for (size x)) old slot d free in
    grind arith

-- what a clause needs is within what clauses may stand in
one_within : (n : ℕ) → slots_for n ≤ 3 * n + 4 * cond (nat_le 2 n) 0 1
one_within n = grind (arith, cases_lt, lt-leb)

all_within : (cs : List Clause)
    → sum_by (λ c. slots_for (size c)) cs
    ≤ 3 * sum_by size cs + 4 * sum_by (λ c. cond (nat_le 2 (size c)) 0 1) cs
all_within [] = omega arith
all_within (c ∷ cs) = search (rules, all_within cs, one_within, sum_by-cons, nat_le)

pub needed_within : (live : FinMap nat_cmp Clause) (count : ℕ) → count ≤ slots_needed live
    → count ≤ most_slots live
needed_within live count few = grind (arith, all_within)

-- ---- Both, where the slots below a number were passed

pub record IsGathered (made : Propagation) (slots : ℕ) (live : FinMap nat_cmp Clause) (number : ℕ) : Type 0 where
  pub copies : AreCopies made.live (below number live)
  pub few_slots : slots ≤ slots_needed made.live
  pub nothing_assumed : made.assumptions ≡ []
  pub refused : made.has_refused ≡ false

pub gathered_none : {made : Propagation} {slots : ℕ} (live : FinMap nat_cmp Clause)
    → made.live ≡ maps.empty → slots ≡ 0 → made.assumptions ≡ [] → made.has_refused ≡ false
    → IsGathered made slots live 0
gathered_none {made} live empty no_slots nothing fresh = grind (arith, below, below_none)

pub gathered_next : {old new : Propagation} {before after : ℕ} {live : FinMap nat_cmp Clause} {slot
    n : ℕ} {c : Clause} → maps.get live n ≡ Some c → maps.get old.live slot ≡ None → (d : Clause)
    × (maps.get new.live slot ≡ Some d) × (same_clause d c ≡ true)
    → ((s : ℕ) → s ≢ slot → maps.get new.live s ≡ maps.get old.live s) → new.assumptions ≡ []
    → new.has_refused ≡ old.has_refused → after ≤ before + slots_for (size c)
    → IsGathered old before live n → IsGathered new after live (n + 1)
gathered_next {old} {new} {before} {after} {live} {slot} {n} {c} is free stored others nothing same more so_far = grind (arith, copied_next, needs_more)

pub gathered_nothing : {made : Propagation} {slots : ℕ} {live : FinMap nat_cmp Clause} {n : ℕ}
    → maps.get live n ≡ None → IsGathered made slots live n → IsGathered made slots live (n + 1)
gathered_nothing {made} {slots} {live} {n} none so_far = grind (arith, below_same)

pub gathered_all : {made : Propagation} {slots : ℕ} {live : FinMap nat_cmp Clause} {n : ℕ}
    → ((s : ℕ) → IsSome (maps.get live s) → s < n) → IsGathered made slots live n
    → SameLive (maps.values made.live) (maps.values live)
gathered_all {made} {slots} {live} {n} low so_far =
    record { copies = λ e. so_far.copies e ∙ grind (arith, below_all) }
