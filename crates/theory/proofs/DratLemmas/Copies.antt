-- The rule of DRAT depends only on how many copies of each clause are alive.
use Rattle.{cnf_base.proofs.LiteralLemmas.complement-complement, std.proofs.Common.{◌<◌, ◌∷◌, ◌≡◌}}
use Rattle.cnf_base.proofs.SetLemmas.{both_pass, complements_has, filter_has, has-complements}
use Rattle.cnf_base.proofs.SetLemmas.{has-filter, has-without, has_append_cases, has_append_left}
use Rattle.cnf_base.proofs.SetLemmas.{has_append_right, same_back, same_itself, same_symm}
use Rattle.cnf_base.proofs.{SetLemmas.{same_there, same_trans, without_has}, SizeLemmas.IsWithin}
use Rattle.cnf_base.specs.Literals.{Clause, Literal, complement, complements, same_clause, without}
use Rattle.std.proofs.Common.{Bool, Err, List, Ok, Some, [], arith, cond, false, inl, inr, refl}
use Rattle.std.proofs.Common.{rules, slice_get, suc, sym, true, true≢false, zero, ℕ, ◌++◌, ◌+◌, ◌-◌}
use Rattle.std.proofs.lemmas.Bool.{false≢true, or_cases, or_left, or_right, Decides.nat_tests}
use Rattle.std.proofs.lemmas.{Grind.common_steps, List.Sums.sum_by-cons, Option.none-some}
use Rattle.{std.specs.List.list_any, theory.specs.Propagation.{HasPr, HasRat, HasRup, Live}}
use Rattle.theory.proofs.PropagationLemmas.Covers.{Covers, clash_covers, reason_covers}
use Rattle.theory.proofs.PropagationLemmas.Forced.{clash_through, forced_assumed}
use Rattle.theory.specs.{Answers.StepAnswer, declared.drat_rules.DratRules.DratRules}
use Rattle.theory.specs.Drat.{AnswersAdd, AnswersDelete, AnswersDrat, AnswersWithWitness, DratStep}
use Rattle.theory.specs.Drat.{IsKeptUnit, SameLive, add, after_drat, copies_of, delete, take_off}
use Rattle.theory.specs.{Propagation.open_literals, declared.refusal.Refusal.TheVariants.NotRup}
use Rattle.theory.specs.declared.accepted.Accepted.{Accepted, TheVariants.{Empty, Pr, Rat}}
use Rattle.theory.specs.declared.refusal.Refusal.TheVariants.{NeitherRupNorPr, NeitherRupNorRat}

-- ---- Copies

pub copies-cons : (e d : Clause) (live : List Clause) → copies_of e (d ∷ live)
    ≡ cond (same_clause e d) 1 0 + copies_of e live
copies-cons e d live = sum_by-cons (λ x. cond (same_clause e x) 1 0) d live

pub alive_copies : (c : Clause) (live : List Clause) → list_any (same_clause c) live ≡ true
    → 0 < copies_of c live
alive_copies c [] h = absurd (false≢true h)
alive_copies c (d ∷ live) h =
    grind (arith, common_steps, nat_tests, or_cases, copies-cons, (alive_copies c live))

pub none_alive : (c : Clause) (live : List Clause) → list_any (same_clause c) live ≡ false
    → copies_of c live ≡ 0
none_alive c [] h = refl
none_alive c (d ∷ live) h = grind (arith, copies-cons, (none_alive c live))

pub copies_alive : (c : Clause) (live : List Clause) → 0 < copies_of c live
    → list_any (same_clause c) live ≡ true
copies_alive c live h = let none = none_alive c live in grind arith

pub alive_at : (c : Clause) (live : List Clause) → list_any (same_clause c) live ≡ true
    → (j : ℕ) × (d : Clause) × (slice_get live j ≡ Some d) × (same_clause c d ≡ true)
alive_at c [] h = absurd (false≢true h)
alive_at c (d ∷ live) h = elim (or_cases (same_clause c d) _ h) [
  | inl here ↦ (zero, d, refl, here)
  | inr there ↦ let w = alive_at c live there in (suc w.0, w.1, w.2, w.3)
]

pub at_alive : (live : List Clause) (k : ℕ) (d : Clause) → slice_get live k ≡ Some d
    → list_any (same_clause d) live ≡ true
at_alive (e ∷ live) (suc k) d at = or_right (same_clause d e) _ (at_alive live k d at)
at_alive live k d at = grind (arith, none-some, or_left, same_itself, or_right)

-- taking a clause off leaves one copy less of it, and as many of any other
taken : (ec ed cd : Bool) (x y : ℕ) → (cd ≡ true → ec ≡ ed)
    → (cd ≡ false → ec ≡ true → ed ≡ true → ⊥) → y ≡ x - cond ec 1 0
    → cond cd x (cond ed 1 0 + y) ≡ (cond ed 1 0 + x) - cond ec 1 0
taken ec ed cd x y h h2 h3 = search rules

pub copies-take_off : (e c : Clause) (live : List Clause)
    → copies_of e (take_off c live) ≡ copies_of e live - cond (same_clause e c) 1 0
copies-take_off e c [] = omega arith
copies-take_off e c (d ∷ live) =
    let later = copies-take_off e c live in let first = copies-cons e d live in
    let rest = copies-cons e d (take_off c live) in
    grind (arith, taken, both_pass, same_trans, same_symm, true≢false)

taken_off_same : (first second : List Clause) (c : Clause) → SameLive first second
    → SameLive (take_off c first) (take_off c second)
taken_off_same first second c same = search (rules, copies-take_off)

pub after_same : (first second : List Clause) (step : DratStep) (word : Accepted)
    → SameLive first second → SameLive (after_drat first step word) (after_drat second step word)
after_same first second (add c set) word same = search (rules, copies-cons)
after_same first second step word same = grind (arith, copies-cons, taken_off_same)

pub same_live_symm : (first second : List Clause) → SameLive first second → SameLive second first
same_live_symm first second same = record { copies = λ e. sym (same.copies e) }

-- ---- What follows from the same clauses

pub covers_of : (first second : List Clause) → SameLive first second
    → Covers (slice_get first) (slice_get second)
covers_of first second same k c at =
    let some = alive_copies c first (at_alive first k c at) in let copies = same.copies c in
    alive_at c second (copies_alive c second (omega arith))

-- the complements of clauses that include one another
pub complements_within : (c d : Clause) → IsWithin c d → IsWithin (complements c) (complements d)
complements_within c d inside l h =
    rw complement-complement at (has-complements d _ (inside _ (complements_has c l h)))

complements_more : (live : Live) (c d : Clause) → IsWithin c d → HasRup live c → HasRup live d
complements_more live c d inside rup = clash_through live (complements c) _ (λ a member.
    forced_assumed live _ a (complements_within c d inside a member)) rup

pub append_more : (c xs ys : Clause) → IsWithin xs ys → IsWithin (c ++ xs) (c ++ ys)
append_more c xs ys inside l h = grind (arith, has_append_cases, has_append_left, has_append_right)

module _ (first second : Live) (there : Covers first second) (back : Covers second first) where
  pub rat_covers : (c : Clause) (pivot : Literal) → HasRat first c pivot → HasRat second c pivot
  rat_covers c pivot rat = record {
    holds_pivot = rat.holds_pivot;
    candidates = λ k d at member.
        let (j, e, at_e, same) = back k d at in
        let rup = rat.candidates j e at_e (same_there d e same _ member) in
        let p = complement pivot in let less : IsWithin (c ++ without e p) (c ++ without d p) =
        grind (arith, append_more, without_has, has-without, same_back) in
        complements_more second _ _ less (clash_covers first second there _ rup);
  }

  pub pr_covers : (c set : List Literal) → HasPr first c set → HasPr second c set
  pr_covers c set pr = record {
    consistent = pr.consistent;
    meets = pr.meets;
    others = λ k d at.
        let (j, e, at_e, same) = back k d at in
        elim (pr.others j e at_e) [
          | inl (l, member, met) ↦ inl (l, same_back d e same l member, met)
          | inr rup ↦ inr (complements_more second (c ++ open_literals set e) _
              (grind (arith, append_more, filter_has, has-filter, same_back))
              (clash_covers first second there _ rup))
        ];
  }

-- ---- The answers

module _ (first second : Live) (there : Covers first second) (back : Covers second first) where
  add_same : (c : List Literal) (answer : StepAnswer) → AnswersAdd first c answer
      → AnswersAdd second c answer
  add_same [] (Ok Empty) a = search clash_covers
  add_same [] (Err NotRup) a = search clash_covers
  add_same (l ∷ c) (Ok Rat) (none, rat) = search (clash_covers, rat_covers)
  add_same (l ∷ c) (Err (NeitherRupNorRat m)) (is, none, no_rat) = search (clash_covers, rat_covers)
  add_same c answer a = search (rules, clash_covers)

  witness_same : (c set : List Literal) (answer : StepAnswer)
      → AnswersWithWitness first c set answer → AnswersWithWitness second c set answer
  witness_same c set (Ok Pr) (quiet, none, pr) = search (clash_covers, pr_covers)
  witness_same c set (Err NeitherRupNorPr) (quiet, none, no_pr) = search (clash_covers, pr_covers)
  witness_same c set answer a = search (rules, clash_covers)

module _ (rules : DratRules) (first second : List Clause) where
  alive_same : (c : Clause) → SameLive first second
      → list_any (same_clause c) first ≡ list_any (same_clause c) second
  alive_same c same =
      let copies = same.copies c in
      let some = alive_copies c first in let found = copies_alive c first in
      let others = alive_copies c second in let again = copies_alive c second in
      both_pass _ _ (λ h. again (omega (arith, some h))) (λ h. found (omega (arith, others h)))

  kept_same : (c : Clause) → SameLive first second → IsKeptUnit rules first c
      → IsKeptUnit rules second c
  kept_same c same kept = search (reason_covers, covers_of, same_itself)

delete_same : (rules : DratRules) (first second : List Clause) (c : List Literal)
    (answer : StepAnswer) → SameLive first second → AnswersDelete rules first c answer
    → AnswersDelete rules second c answer
delete_same rules first second c answer same a =
    let alive = alive_same rules first second c same in
    let there = kept_same rules first second c same in
    let back = kept_same rules second first c (same_live_symm first second same) in grind arith

pub drat_same : (rules : DratRules) (first second : List Clause) (step : DratStep)
    (answer : StepAnswer) → SameLive first second → AnswersDrat rules first step answer
    → AnswersDrat rules second step answer
drat_same rules first second (add c []) answer same a = search (add_same, covers_of, same_live_symm)
drat_same rules first second (add c (l ∷ set)) answer same a =
    search (witness_same, covers_of, same_live_symm)
drat_same rules first second (delete c) answer same a = search (rules, delete_same)

pub ruleset copies_count = (drat_same, after_same)
