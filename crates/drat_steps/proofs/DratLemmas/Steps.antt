-- A map from slots to clauses, whose values are the live clauses.
use Rattle.cnf_base.{proofs.LiteralLemmas.complement-complement, specs.Literals.without}
use Rattle.cnf_base.proofs.MapLemmas.{inserted_is, sum_insert, sum_remove}
use Rattle.cnf_base.proofs.SetLemmas.{any_from, any_none, any_some, both_pass, has-complements}
use Rattle.cnf_base.proofs.SetLemmas.{has-filter, has_append_cases, has_append_left, same_trans}
use Rattle.cnf_base.proofs.SetLemmas.{has_append_right, has_head, same_itself, same_symm}
use Rattle.cnf_base.specs.Literals.{Clause, Literal, complement, complements, has, same_clause}
use Rattle.drat_steps.proofs.DratLemmas.Terms.{AllIn, Clauses, IsFound, Shares, listed}
use Rattle.{drat_steps.specs.Code.Candidates.Searched, propagation.specs.Assumptions.Propagation}
use Rattle.{drat_steps.specs.Ready.MeetsIfListed, theory.specs.Drat.{SameLive, take_off}}
use Rattle.{proofs.specs.Steps.{clause_part, witness_part}, std.specs.Ordering.{eq_by_cmp, nat_cmp}}
use Rattle.propagation.proofs.PropagationLemmas.Counts.{below_found, both, tied}
use Rattle.std.proofs.Common.{Bool, Err, List, None, Ok, Some, T, [], ap, arith, cond, drop, eq-eqb}
use Rattle.std.proofs.Common.{eqb, false, filter, inl, inr, length, map, not, refl, rules}
use Rattle.std.proofs.Common.{slice_get, subst, suc, sym, take, take_while, true, zero, ℕ, ◌&&◌}
use Rattle.std.{proofs.Common.{◌++◌, ◌+◌, ◌||◌, ◌↔◌, ◌∙◌, ◌∷◌, ◌≡◌, ◌≢◌, ◌⊎◌}, specs.List.list_any}
use Rattle.std.proofs.lemmas.{Bool.{cases_Bool, false_from_ne_true, true≢false}, List.map-append}
use Rattle.std.{proofs.lemmas.List.Folds.list_any_at, specs.FinMap.{find, get-entries, is_sorted}}
use Rattle.std.proofs.lemmas.Option.{get_or_from_slice_get, none-some, same_Some, slice_get_within}
use Rattle.theory.proofs.DratLemmas.Copies.{alive_at, copies-cons, copies-take_off, pr_covers}
use Rattle.theory.proofs.{DratLemmas.Copies.rat_covers, PropagationLemmas.Conflicts.not_both}
use Rattle.theory.proofs.PropagationLemmas.Covers.{Covers, clash_covers, reason_covers}
use Rattle.theory.proofs.PropagationLemmas.Forced.{clash_by_false, clash_through, forced_assumed}
use Rattle.theory.specs.Drat.{AnswersAdd, AnswersDelete, AnswersListed, AnswersWithWitness}
use Rattle.theory.specs.{Lrat.{AnswersChain, conflict}, Propagation.open_literals}
use Rattle.theory.specs.Propagation.{Clash, HasPr, HasRat, HasRup, IsRootReason, Live}
use Rattle.{theory.specs.Sets.{SameSet, conflicts}, trail.specs.LiteralSet.in_set}
use Rattle.theory.specs.declared.{accepted.Accepted.Accepted, drat_rules.DratRules.DratRules}
use Rattle.theory.specs.declared.accepted.Accepted.TheVariants.{Deleted, Ignored, Pr, Rat}
use Rattle.theory.specs.declared.refusal.Refusal.TheVariants.{InconsistentSet, NeitherRupNorPr}
use Rattle.theory.specs.declared.refusal.Refusal.TheVariants.{NeitherRupNorRat, NotRup}
use Rattle.trail.specs.{Reduced.is_reduced, declared.literal_set.LiteralSet.LiteralSet}
use Rattle.std.specs.FinMap as maps

abbrev clauses_in : List (ℕ × Clause) → List Clause
clauses_in es = map (λ e. e.1) es

-- a clause at a slot that was free is one copy more
pub slots-insert : (m : Clauses) (k : ℕ) (c : Clause) → maps.get m k ≡ None →
    SameLive (maps.values (maps.insert m k c)) (c ∷ maps.values m)
slots-insert m k c absent = search (rules, arith, sum_insert, copies-cons)

eq_itself : (k : ℕ) → eq_by_cmp nat_cmp k k ≡ true
eq_itself k = grind (arith, eq-eqb)

-- a slot that is freed is one copy less
pub slots-remove : (m : Clauses) (k : ℕ) (c d : Clause) → maps.get m k ≡ Some d →
    same_clause c d ≡ true → SameLive (maps.values (maps.remove m k)) (take_off c (maps.values m))
slots-remove m k c d at same =
    search (rules, arith, both_pass, same_trans, same_symm, sum_remove, copies-take_off)

-- ---- Looking a slot up, and standing in the list of values

find_listed : (es : List (ℕ × Clause)) (k : ℕ) (c : Clause) → find nat_cmp k es ≡ Some c →
    (j : ℕ) × (slice_get (clauses_in es) j ≡ Some c)
find_listed [] k c at = absurd (none-some c at)
find_listed (x ∷ es) k c at = elim (cases_Bool (eq_by_cmp nat_cmp k x.0)) [
  | inl e ↦ (zero, grind arith)
  | inr e ↦ let w = find_listed es k c (grind arith) in (suc w.0, w.1)
]

listed_found : (es : List (ℕ × Clause)) → T (is_sorted nat_cmp es) → (j : ℕ) (c : Clause) →
    slice_get (clauses_in es) j ≡ Some c → (k : ℕ) × (find nat_cmp k es ≡ Some c)
listed_found [] sorted j c at = absurd (none-some c at)
listed_found (x ∷ es) sorted zero c at = (x.0, grind (arith, eq_itself))
listed_found (x ∷ es) sorted (suc j) c at =
    let later = listed_found es (grind (arith, both)) j c at in
    search (rules, arith, both, below_found, false_from_ne_true, tied, later)

module _ (m : Clauses) where
  pub slots_covered : Covers (maps.get m) (listed m)
  slots_covered k c at =
      let w = find_listed _ k c (grind (arith, get-entries)) in (w.0, c, w.1, same_itself c)

  pub covered_by_slots : Covers (listed m) (maps.get m)
  covered_by_slots j c at = let w = listed_found _ (maps.entries_sorted m) j c at in
      (w.0, c, get-entries m w.0 ∙ w.1, same_itself c)

  -- propagation, RAT and PR over the slots are those over the list of values
  pub slots-clash : (ls : List Literal) → Clash (maps.get m) ls ↔ Clash (listed m) ls
  slots-clash ls = search (rules, arith, clash_covers, slots_covered, covered_by_slots)

  slots-rat : (c : Clause) (l : Literal) → HasRat (maps.get m) c l ↔ HasRat (listed m) c l
  slots-rat c l = search (rules, arith, rat_covers, slots_covered, covered_by_slots)

  slots-pr : (c set : List Literal) → HasPr (maps.get m) c set ↔ HasPr (listed m) c set
  slots-pr c set = search (rules, arith, pr_covers, slots_covered, covered_by_slots)

  -- a clause that is the reason of a root-level literal, however it is written
  pub slots-reason : (c d : Clause) → same_clause c d ≡ true → IsRootReason (maps.get m) c
      → IsRootReason (listed m) d
  slots-reason c d same r = reason_covers _ _ slots_covered c d same r

  pub reason-slots : (c d : Clause) → same_clause c d ≡ true
      → IsRootReason (listed m) c → IsRootReason (maps.get m) d
  reason-slots c d same r = reason_covers _ _ covered_by_slots c d same r

-- ---- RUP and RAT

-- a clash needs no literal twice
pub clash_same : (live : Live) (first second : List Literal) → AllIn first second →
    Clash live first → Clash live second
clash_same live first second into = search (rules, arith, clash_through, forced_assumed)

module _ (c assumed : Clause) (same : SameSet assumed (complements c)) (d : Clause) where
  there : AllIn (assumed ++ complements d) (complements (c ++ d))
  there a h = grind (arith, map-append, has_append_cases, has_append_left, has_append_right)

  back : AllIn (complements (c ++ d)) (assumed ++ complements d)
  back a h = search (rules, arith, has_append_cases, map-append, has_append_left, has_append_right)

module _ (live : Clauses) where
  rup_listed : (c : Clause) → HasRup (maps.get live) c → HasRup (listed live) c
  rup_listed c = (slots-clash live (complements c)).0

  no_rup_listed : (c : Clause) → ¬ HasRup (maps.get live) c → ¬ HasRup (listed live) c
  no_rup_listed c none rup = none ((slots-clash live (complements c)).1 rup)

  answers_rup : (c : Clause) (word : Accepted) → AnswersChain (λ _. None) c [] conflict (Ok word) →
      HasRup (maps.get live) c → AnswersAdd (listed live) c (Ok word)
  answers_rup [] word is clash = subst (AnswersAdd _ []) (sym is) (rup_listed [] clash)
  answers_rup (l ∷ c) word is clash =
      subst (AnswersAdd _ (l ∷ c)) (sym is) (rup_listed (l ∷ c) clash)

abbrev SearchedHolding : Live → List Literal → Literal → Bool → Type 0
SearchedHolding live assumed l = Searched live assumed (λ d. has d l) (λ d. without d l)

-- the clause begins with the pivot
module _ (live : Clauses) (pivot : Literal) (rest assumed : List Literal)
    (same : SameSet assumed (complements (pivot ∷ rest)))
    (none : ¬ HasRup (maps.get live) (pivot ∷ rest)) where
  answers_at : (b : Bool) → SearchedHolding (maps.get live) assumed (complement pivot) b →
      AnswersAdd (listed live) (pivot ∷ rest) (cond b (Ok Rat) (Err (NeitherRupNorRat pivot)))
  answers_at true all = (
    no_rup_listed live (pivot ∷ rest) none,
    (slots-rat live _ _).0 (record {
      holds_pivot = has_head pivot rest;
      candidates = λ k d at h. clash_same _ _ _ (there (pivot ∷ rest) _ same _) (all k d at h);
    }),
  )
  answers_at false some = (
    refl,
    no_rup_listed live (pivot ∷ rest) none,
    λ rat. some.quiet (clash_same _ _ _ (back (pivot ∷ rest) _ same _)
        (((slots-rat live _ _).1 rat).candidates some.slot some.clause some.at some.passes)),
  )

pub answers_none : (live : Clauses) (c : List Literal) → None ≡ slice_get c 0 →
    ¬ HasRup (maps.get live) c → AnswersAdd (listed live) c (Err NotRup)
answers_none live [] first none = no_rup_listed live [] none
answers_none live (l ∷ c) first none = grind (arith, none-some)

-- the clause begins with the pivot, whose candidates were searched
pub answers_searched : (live : Clauses) (c : List Literal) (pivot : Literal) →
    Some pivot ≡ slice_get c 0 → (assumed : List Literal) → SameSet assumed (complements c) →
    ¬ HasRup (maps.get live) c → (opposite : Literal) → opposite ≡ complement pivot →
    (found b : Bool) → found ≡ b → SearchedHolding (maps.get live) assumed opposite found →
    AnswersAdd (listed live) c (cond b (Ok Rat) (Err (NeitherRupNorRat pivot)))
answers_searched live [] pivot first assumed same none opposite is found b value searched = cc
answers_searched live (l ∷ c) pivot first assumed same none opposite is found b value searched =
    rw (same_Some pivot l first)
    (answers_at live l c assumed same none b (grind (arith, same_Some)))

pub no_clash : (first second : Clauses) (c assumed : List Literal) → second ≡ first →
    ¬ Clash (maps.get first) assumed → assumed ≡ complements c → ¬ HasRup (maps.get second) c
no_clash first second c assumed is none same rup = none (subst (Clash _) (sym same) (rw is at rup))

-- ---- What is alive

-- a clause in a slot that was free is one copy more
pub one_more : (old new : Clauses) (slot : ℕ) (c lits : Clause) → maps.get old slot ≡ None →
    maps.get new slot ≡ Some c → same_clause c lits ≡ true →
    ((s : ℕ) → s ≢ slot → maps.get new s ≡ maps.get old s) →
    SameLive (maps.values new) (lits ∷ maps.values old)
one_more old new slot c lits free at same others =
    let is : new ≡ maps.insert old slot c = grind (arith, inserted_is) in
    let more = slots-insert old slot c free in record {
      copies = λ e. grind (arith, is, more, copies-cons, both_pass, same_trans, same_symm);
    }

-- ---- Deletions

module _ (live : Clauses) (lits : Clause) where
  alive_listed : (slot : ℕ) (c : Clause) → maps.get live slot ≡ Some c →
      same_clause c lits ≡ true → list_any (same_clause lits) (maps.values live) ≡ true
  alive_listed slot c at same =
      let w = slots_covered live slot c at in
      list_any_at (same_clause lits) (maps.values live) w.0 [] (slice_get_within _ w.0 w.1 w.2)
      (grind (arith, same_trans, same_symm, get_or_from_slice_get))

  pub none_listed : ((s : ℕ) (c : Clause) → maps.get live s ≡ Some c → same_clause c lits ≢ true) →
      list_any (same_clause lits) (maps.values live) ≡ false
  none_listed none =
      search (rules, arith, false_from_ne_true, alive_at, covered_by_slots, same_trans, same_symm)

  pub taken_off : (slot : ℕ) (c : Clause) (new : Clauses) → maps.get live slot ≡ Some c →
      same_clause c lits ≡ true → new ≡ maps.remove live slot →
      SameLive (maps.values new) (take_off lits (maps.values live))
  taken_off slot c new at same is = search (rules, arith, slots-remove, same_symm)

-- the rules keep the clause
abbrev Keeps : DratRules → Clauses → Clause → Type 0
Keeps rules live c = (rules.keep_units ≡ true) × IsRootReason (maps.get live) c

-- the clause was found, and whether its unit is kept is asked of the state after, which is the same
module _ (before after : Propagation) (same : after ≡ before) (rules : DratRules) (lits : Clause)
    (slot : ℕ) (found : IsFound before.live slot lits) where
  pub kept_ignored : ((c : Clause) → maps.get after.live slot ≡ Some c → Keeps rules after.live c) →
      AnswersDelete rules (maps.values before.live) lits (Ok Ignored)
  kept_ignored keeps = grind (arith, alive_listed, slots-reason)

  pub not_kept_deleted :
      ((c : Clause) → maps.get after.live slot ≡ Some c → ¬ Keeps rules after.live c) →
      AnswersDelete rules (maps.values before.live) lits (Ok Deleted)
  not_kept_deleted leaves = (
    alive_listed before.live lits slot found.0 found.1 found.2,
    λ kept. (rw same at leaves) found.0 found.1
        (kept.0, reason-slots before.live lits found.0 (same_symm found.0 lits found.2) kept.1),
  )

-- ---- The set that was filled with the witness

-- the clauses that this witness reduces were searched
abbrev SearchedReduced : Live → List Literal → (Literal → Bool) → Bool → Type 0
SearchedReduced live assumed witness =
    Searched live assumed (is_reduced witness) (λ c. filter (λ l. not (witness (complement l))) c)

module _ (set : LiteralSet) (witness : List Literal)
    (filled : (l : Literal) → in_set set l ≡ has witness l) where
  pub touched_if_reduced : (d : Clause) → is_reduced (in_set set) d ≡ true →
      list_any (λ l. has d (complement l)) witness ≡ true
  touched_if_reduced d reduced =
      grind (arith, any_some, list_any, any_from, complement-complement)

  pub conflicts_filled : list_any (λ l. in_set set (complement l)) witness ≡ conflicts witness
  conflicts_filled = search rules

pub listed_inconsistent : (live : List Clause) (c witness : List Literal) →
    conflicts witness ≡ true → AnswersListed (slice_get live) c witness (Err InconsistentSet)
listed_inconsistent live c witness h = search rules

-- ---- What an addition lists

abbrev Ends : Literal → List Literal → Type 0
Ends first left = (left ≡ []) ⊎ (has left first ≡ true)

-- a witness that is listed begins with the clause's first literal
pub parts_meet : (lits : List Literal) → MeetsIfListed (clause_part lits) (witness_part lits)
parts_meet [] = inl refl
parts_meet (first ∷ rest) = elim (from_first rest) [
  | inl none ↦ inl none
  | inr there ↦ grind (arith, has_head, there)
]
  where
    by_test : (b : Bool) (l : Literal) (ls : List Literal) (n : ℕ) → eqb l first ≡ b →
        Ends first (drop (length (take n ls)) ls) →
        Ends first (drop (length (take (cond (not b) (1 + n) 0) (l ∷ ls))) (l ∷ ls))
    by_test true l ls n e h = inr (ap (λ b. b || has ls first) e)
    by_test false l ls n e h = search rules

    from_first : (ls : List Literal) →
        Ends first (drop (length (take_while (λ l. not (eqb l first)) ls)) ls)
    from_first [] = inl refl
    from_first (l ∷ ls) = by_test (eqb l first) l ls _ refl (from_first ls)

-- ---- The answers

module _ (live : Clauses) (c witness assumed : List Literal)
    (same : SameSet assumed (complements c)) where
  -- a clause that the witness does not reduce meets it, or is false where the clause and all of it
  -- are assumed false
  others_from : SearchedReduced (maps.get live) assumed (has witness) true →
      (k : ℕ) (d : Clause) → maps.get live k ≡ Some d →
      Shares d witness ⊎ HasRup (maps.get live) (c ++ open_literals witness d)
  others_from all k d at = elim (cases_Bool (list_any (has witness) d)) [
    | inl met ↦ inl (any_some (has witness) d met)
    | inr unmet ↦ elim (cases_Bool (list_any (λ l. has witness (complement l)) d)) [
      | inl touched ↦ inr (clash_same _ _ _ (grind (arith, there)) (all k d at (grind arith)))
      | inr untouched ↦ inr (clash_by_false _ _ _ _ at
          (grind (arith, forced_assumed, has-complements, has_append_right, has-filter, any_none)))
    ]
  ]

  second_of : (a b : Bool) → (a && not b) ≡ true → b ≡ false
  second_of a b h = search rules

  some_not_pr : SearchedReduced (maps.get live) assumed (has witness) false →
      ¬ HasPr (maps.get live) c witness
  some_not_pr some pr = elim (pr.others some.slot some.clause some.at) [
    | inl met ↦ grind (arith, true≢false, any_from, second_of)
    | inr rup ↦ some.quiet (clash_same _ _ _ (grind (arith, back)) rup)
  ]

  module _ (consistent : conflicts witness ≡ false) (meets : Shares c witness)
      (none : ¬ HasRup (maps.get live) c) where
    answers_reduced : (found b : Bool) → found ≡ b →
        SearchedReduced (maps.get live) assumed (has witness) found →
        AnswersWithWitness (listed live) c witness (cond b (Ok Pr) (Err NeitherRupNorPr))
    answers_reduced true true value all = (
      consistent,
      no_rup_listed live c none,
      (slots-pr _ _ _).0 (record {
        consistent = grind (arith, not_both);
        meets = meets;
        others = others_from all;
      }),
    )
    answers_reduced false false value some =
        (consistent, no_rup_listed live c none, λ pr. some_not_pr some ((slots-pr _ _ _).1 pr))
    answers_reduced found b value some = grind (arith, true≢false)

    pub answers_filled : (set : LiteralSet) → ((l : Literal) → in_set set l ≡ has witness l) →
        (found b : Bool) → found ≡ b →
        SearchedReduced (maps.get live) assumed (in_set set) found →
        AnswersWithWitness (listed live) c witness (cond b (Ok Pr) (Err NeitherRupNorPr))
    answers_filled set filled found b value searched =
        answers_reduced found b value (subst
        (λ w. SearchedReduced (maps.get live) assumed w found) (λ i l. filled l i) searched)

-- the clause has RUP, whether the addition lists a witness or not
pub listed_rup : (live : Clauses) (c witness : List Literal) (word : Accepted) →
    AnswersChain (λ _. None) c [] conflict (Ok word) → conflicts witness ≡ false →
    MeetsIfListed c witness → HasRup (maps.get live) c →
    AnswersListed (listed live) c witness (Ok word)
listed_rup live c [] word is consistent meets clash = answers_rup live c word is clash
listed_rup live [] (w ∷ witness) word is consistent meets clash = grind arith
listed_rup live (l ∷ c) (w ∷ witness) word is consistent meets clash =
    subst (AnswersWithWitness _ (l ∷ c) (w ∷ witness)) (sym is)
    (consistent, rup_listed live (l ∷ c) clash)

-- what is said of a clause that is deleted
pub ruleset delete_steps = (none_listed, taken_off)
