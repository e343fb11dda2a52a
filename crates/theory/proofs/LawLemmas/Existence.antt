-- Each step has an answer, under either rule.
use Rattle.cnf_base.{proofs.SetLemmas.{any_from, any_some}, specs.Literals.without}
use Rattle.cnf_base.specs.Literals.{Clause, Literal, complement, complements, has, same_clause}
use Rattle.{proofs.specs.Steps.Step, std.specs.List.list_any}
use Rattle.std.proofs.Common.{Bool, Err, List, None, Ok, Option, Some, [], arith, eqb, false, inl}
use Rattle.std.proofs.Common.{inr, length, max, nat_le, not, refl, rules, slice_get, suc, sym, true}
use Rattle.std.proofs.Common.{true≢false, zero, ℕ, ◌&&◌, ◌++◌, ◌<◌, ◌∙◌, ◌∷◌, ◌≡◌, ◌≤◌, ◌⊎◌}
use Rattle.std.proofs.lemmas.{Bool.{cases_Bool, cases_eq, cases_lt}, Option.none-some}
use Rattle.theory.proofs.LawLemmas.Reasons.{IsDecided, all_that_follows, reason_decided}
use Rattle.theory.proofs.{LratLemmas.Sums.with_other, PropagationLemmas.Conflicts.not_both}
use Rattle.theory.proofs.PropagationLemmas.Unit.{clash_of_conflict, closed_quiet}
use Rattle.theory.specs.{Answers.StepAnswer, Laws.AnswersExist, Sets.conflicts}
use Rattle.theory.specs.Drat.{AnswersAdd, AnswersDelete, AnswersDrat, AnswersWithWitness, DratStep}
use Rattle.theory.specs.{Drat.{IsKeptUnit, add, delete, drat_step}, Rules.{drat, lrat, start}}
use Rattle.theory.specs.Lrat.{AnswersChain, AnswersGroups, AnswersLrat, ChainEnd, Group, LratState}
use Rattle.theory.specs.Lrat.{LratStep, add, after_lrat, answer_of, chain, delete, deletion_refusal}
use Rattle.theory.specs.Lrat.{is_left_out, lrat_step, not_unit, numbered, open_with, without_ids}
use Rattle.theory.specs.Propagation.{Clash, HasPr, HasRat, HasRup, Live, by_empty, open_literals}
use Rattle.theory.specs.Rules.{IsFinite, IsFiniteMap, Rule, Same, State, after, by_copies, by_ids}
use Rattle.theory.specs.declared.{accepted.Accepted.Accepted, refusal.Refusal.Refusal}
use Rattle.theory.specs.declared.accepted.Accepted.TheVariants.{Deleted, Empty, Ignored, Pr, Rat}
use Rattle.theory.specs.declared.{accepted.Accepted.TheVariants.Rup, drat_rules.DratRules.DratRules}
use Rattle.theory.specs.declared.refusal.Refusal.TheVariants as refused

-- ---- Each step of a DRAT proof has an answer: whether propagation clashes can be decided

-- ---- Clashes

-- an empty clause is alive, or none is
empty_or_not : (live : List Clause) → ((k : ℕ) × (slice_get live k ≡ Some []))
    ⊎ ((k : ℕ) → slice_get live k ≡ Some [] → ⊥)
empty_or_not [] = inr (λ k at. absurd (none-some [] at))
empty_or_not ([] ∷ live) = inl (zero, refl)
empty_or_not ((l ∷ c) ∷ live) =
    elim (empty_or_not live) [ inl w ↦ inl (suc w.0, w.1) | inr none ↦ inr (grind arith) ]

module _ (live : List Clause) (assumed : List Literal) where
  pub clash_decided : IsDecided (Clash (slice_get live) assumed)
  clash_decided =
      let w = all_that_follows live assumed in let all = w.0 in
      elim (cases_Bool (conflicts all)) [
        | inl clash ↦ inl (clash_of_conflict (slice_get live) assumed all w.1.sound clash)
        | inr quiet ↦ elim (empty_or_not live) [
          | inl empty ↦ inl (by_empty empty.0 empty.1)
          | inr none ↦ inr (closed_quiet _ all w.1.closed none assumed w.1.start quiet)
        ]
      ]

-- ---- Candidates

-- each clause of the list passes, or one does not
each_or_one : (P : Clause → Type 0) → ((d : Clause) → IsDecided (P d)) → (live : List Clause)
    → ((k : ℕ) (d : Clause) → slice_get live k ≡ Some d → P d)
    ⊎ ((k : ℕ) × (d : Clause) × (slice_get live k ≡ Some d) × ¬ P d)
each_or_one P decide [] = inl (grind arith)
each_or_one P decide (c ∷ live) = elim (each_or_one P decide live) [
  | inr w ↦ inr (suc w.0, w.1, w.2, w.3)
  | inl rest ↦ elim (decide c) [ inl this ↦ inl (grind arith) | inr not ↦ inr (zero, c, refl, not) ]
]

module _ (live : List Clause) (c : Clause) (pivot : Literal) where
  -- what RAT asks of a clause
  abbrev Passes : Clause → Type 0
  Passes d = has d (complement pivot) ≡ true
      → HasRup (slice_get live) (c ++ without d (complement pivot))

  passes_decided : (d : Clause) → IsDecided (Passes d)
  passes_decided d = elim (cases_Bool (has d (complement pivot))) [
    | inr absent ↦ inl (λ h. absurd (true≢false (sym h ∙ absent)))
    | inl member ↦ elim (clash_decided live (complements (c ++ without d (complement pivot)))) [
      | inl clash ↦ inl (λ h. clash)
      | inr none ↦ inr (λ passes. none (passes member))
    ]
  ]

  pub rat_decided : IsDecided (HasRat (slice_get live) c pivot)
  rat_decided = elim (cases_Bool (has c pivot)) [
    | inr absent ↦ inr (λ rat. true≢false (sym rat.holds_pivot ∙ absent))
    | inl member ↦ elim (each_or_one Passes passes_decided live) [
      | inl each ↦ inl (record { holds_pivot = member; candidates = each })
      | inr w ↦ inr (λ rat. w.3 (rat.candidates w.0 w.1 w.2))
    ]
  ]

module _ (live : List Clause) (c set : List Literal) where
  -- what PR asks of a clause
  abbrev PrPasses : Clause → Type 0
  PrPasses d = ((l : Literal) × (has d l ≡ true) × (has set l ≡ true)) ⊎ HasRup (slice_get live)
      (c ++ open_literals set d)

  met_decided : (d : Clause) → IsDecided ((l : Literal) × (has d l ≡ true) × (has set l ≡ true))
  met_decided d =
      let met = cases_Bool (list_any (has set) d) in
      let some = any_some (has set) d in let from = any_from (has set) d in
      grind (arith, true≢false)

  pr_passes_decided : (d : Clause) → IsDecided (PrPasses d)
  pr_passes_decided d = elim (met_decided d) [
    | inl met ↦ inl (inl met)
    | inr unmet ↦ elim (clash_decided live (complements (c ++ open_literals set d))) [
      | inl clash ↦ inl (inr clash)
      | inr none ↦ inr (λ passes. elim passes [ inl met ↦ unmet met | inr clash ↦ none clash ])
    ]
  ]

  pub pr_decided : conflicts set ≡ false → IsDecided (HasPr (slice_get live) c set)
  pr_decided consistent = elim (met_decided c) [
    | inr unmet ↦ inr (λ pr. unmet pr.meets)
    | inl met ↦ elim (each_or_one PrPasses pr_passes_decided live) [
      | inl each ↦ inl (search (rules, not_both))
      | inr w ↦ inr (λ pr. w.3 (pr.others w.0 w.1 w.2))
    ]
  ]

-- ---- Answers

witness_answer : (live : List Clause) (c set : List Literal)
    → (answer : StepAnswer) × AnswersWithWitness (slice_get live) c set answer
witness_answer live c set = elim (cases_Bool (conflicts set)) [
  | inl both ↦ (Err refused.InconsistentSet, both)
  | inr consistent ↦ elim (clash_decided live (complements c)) [
    | inl clash ↦ (Ok Rup, (consistent, clash))
    | inr none ↦ elim (pr_decided live c set consistent) [
      | inl pr ↦ (Ok Pr, (consistent, none, pr))
      | inr neither ↦ (Err refused.NeitherRupNorPr, (consistent, none, neither))
    ]
  ]
]

add_answer : (live : List Clause) (c : List Literal) → (answer : StepAnswer) × AnswersAdd
    (slice_get live) c answer
add_answer live [] = elim (clash_decided live []) [
  | inl clash ↦ (Ok Empty, clash)
  | inr none ↦ (Err refused.NotRup, none)
]
add_answer live (pivot ∷ rest) = elim (clash_decided live (complements (pivot ∷ rest))) [
  | inl clash ↦ (Ok Rup, clash)
  | inr none ↦ elim (rat_decided live (pivot ∷ rest) pivot) [
    | inl rat ↦ (Ok Rat, (none, rat))
    | inr neither ↦ (Err (refused.NeitherRupNorRat pivot), (refl, none, neither))
  ]
]

kept_decided : (rules : DratRules) (live : List Clause) (c : Clause)
    → IsDecided (IsKeptUnit rules live c)
kept_decided rules live c = grind (arith, cases_Bool, true≢false, reason_decided)

delete_answer : (rules : DratRules) (live : List Clause) (c : List Literal)
    → (answer : StepAnswer) × AnswersDelete rules live c answer
delete_answer rules live c = elim (cases_Bool (list_any (same_clause c) live)) [
  | inl alive ↦ elim (kept_decided rules live c) [
    | inl kept ↦ (Ok Ignored, inl (alive, kept))
    | inr none ↦ (Ok Deleted, (alive, none))
  ]
  | inr absent ↦ elim (cases_Bool rules.strict) [
    | inl strict ↦ (Err refused.NotAlive, (absent, strict))
    | inr lax ↦ (Ok Ignored, inr (absent, lax))
  ]
]

pub drat_answer : (rules : DratRules) (live : List Clause) (step : DratStep)
    → (answer : StepAnswer) × AnswersDrat rules live step answer
drat_answer rules live (add c []) = add_answer live c
drat_answer rules live (add c (l ∷ set)) = witness_answer live c (l ∷ set)
drat_answer rules live (delete c) = delete_answer rules live c

-- the lowest number up to a bound that passes, if one does
lowest : (p : ℕ → Bool) (n : ℕ)
    → ((k : ℕ) → k < n → p k ≡ false) ⊎ ((k : ℕ) × (p k ≡ true) × ((j : ℕ) → j < k → p j ≡ false))
lowest p Prim.Native.Nat.zero = inl (λ k h. absurd (omega arith))
lowest p (suc n) =
    let later = lowest p n in let here = cases_Bool (p n) in grind (arith, cases_eq)

and_false : (b : Bool) → (b && false) ≡ false
and_false b = search rules

groups_answer : (live : Live) → IsFiniteMap live → (ls : List Literal) (pivot : Literal) (groups : List Group) (o : Option Refusal) → (answer : StepAnswer) × AnswersGroups live ls pivot groups o answer
groups_answer live b ls pivot groups (Some r) = (Err r, refl)
groups_answer live b ls pivot groups None =
    elim (lowest (is_left_out live ls pivot groups) (suc b.bound)) [
      | inr found ↦ (Err (refused.Unnamed found.0), (found.1, found.2))
      | inl none ↦ (
        Ok Rat,
        λ k. elim (cases_lt b.bound k) [
          | inl past ↦ grind (arith, not, list_any, eqb, and_false)
          | inr within ↦ none k (omega arith)
        ],
      )
    ]

chain_answer : (live : Live) → IsFiniteMap live → (c : List Literal) (groups : List Group)
    (end : ChainEnd) → (answer : StepAnswer) × AnswersChain live c groups end answer
chain_answer live b c groups (not_unit k) = (_, refl)
chain_answer live b (l ∷ c) groups (open_with ls) = groups_answer live b ls l groups _
chain_answer live b [] groups end = (_, refl)
chain_answer live b c groups end = (_, refl)

-- each step has an answer
lrat_answer : (state : LratState) → IsFiniteMap state.live → (step : LratStep)
    → (answer : StepAnswer) × AnswersLrat state step answer
lrat_answer state b (add id c units groups) =
    let after = chain_answer state.live b c groups (chain state.live (complements c) units) in
    elim (cases_Bool (nat_le id state.top)) [
      | inl low ↦ (Err refused.IdOutOfOrder, grind arith)
      | inr high ↦ (after.0, grind arith)
    ]
lrat_answer state b (delete ids) = (answer_of (deletion_refusal state.live ids), refl)

without_all_finite : (ids : List ℕ) (live : Live) → IsFiniteMap live
    → IsFiniteMap (without_ids live ids)
without_all_finite [] live b = b
without_all_finite (id ∷ ids) live b = without_all_finite ids _ (search rules)

lrat_finite : (state : LratState) (step : LratStep) → IsFiniteMap state.live
    → IsFiniteMap (after_lrat state step).live
lrat_finite state (add id c units groups) b = record {
  bound = max b.bound id;
  none = grind (arith, with_other);
}
lrat_finite state (delete ids) b = without_all_finite ids state.live b

-- ---- Of either rule

-- each step has an answer
pub some_answer : AnswersExist
some_answer (by_ids s) step b = lrat_answer s b (lrat_step step)
some_answer (by_copies rules live) step b = drat_answer rules live (drat_step rules step)

pub after_finite : (state : State) (step : Step) (word : Accepted) → IsFinite state
    → IsFinite (after state step word)
after_finite state step word h = search (rules, lrat_finite)

pub same_finite : (first second : State) → Same first second → IsFinite second → IsFinite first
same_finite first second h h2 = search rules

past : (cs : List Clause) (k : ℕ) → length cs ≤ k → slice_get cs k ≡ None
past (c ∷ cs) (suc k) h = past cs k (omega arith)
past cs k h = grind arith

pub numbered_above : (cs : List Clause) (k : ℕ) → length cs < k → numbered cs k ≡ None
numbered_above cs k h = grind (arith, past)

pub start_finite : (rule : Rule) (formula : List Clause) → IsFinite (start rule formula)
start_finite lrat formula = record { bound = length formula; none = numbered_above formula }
start_finite (drat rules) formula = tt
