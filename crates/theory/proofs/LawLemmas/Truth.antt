-- What is true under an assignment, the assignment that makes a witness true, and that accepted
-- steps keep satisfiability.
use Rattle.cnf_base.proofs.LiteralLemmas.{complement-complement, complement-other}
use Rattle.cnf_base.proofs.SetLemmas.{any_from, any_none, any_some, complements_has, filter_has}
use Rattle.cnf_base.proofs.SetLemmas.{has_append_cases, has_head, without_has}
use Rattle.cnf_base.specs.Literals.{Clause, Literal, complement, complements, has, same_clause}
use Rattle.{cnf_base.specs.Literals.without, std.proofs.Common.{List, Ok, Some, [], ap, arith}}
use Rattle.std.proofs.Common.{false, if◌then◌else◌, inl, inr, ne_eqb, not, rules, slice_get, suc}
use Rattle.std.proofs.Common.{sym, true, true≢false, zero, ℕ, ◌*◌, ◌++◌, ◌+◌, ◌||◌, ◌∙◌, ◌∷◌, ◌≡◌}
use Rattle.std.proofs.{Common.◌≢◌, lemmas.Bool.{cases_Bool, cases_eq, false≢true, not-true}}
use Rattle.std.proofs.lemmas.{Bool.{true_from_ne_false, Decides.nat_tests}, Option.none-some}
use Rattle.theory.{proofs.LratLemmas.Steps.{deletion_word, lrat_redundant}, specs.Drat.AnswersDrat}
use Rattle.theory.specs.Drat.{AnswersListed, DratStep, add, after_drat, delete, take_off}
use Rattle.theory.specs.{Laws.IsRedundant, Lrat.{AnswersLrat, LratState, LratStep, add as add_lrat}}
use Rattle.theory.specs.Lrat.{after_lrat, delete as delete_lrat, with_clause, without_ids}
use Rattle.theory.specs.{Models.{Assignment, HasModel, Models, holds, satisfies}, Propagation.Clash}
use Rattle.theory.specs.Propagation.{Forced, HasPr, HasRat, HasRup, IsClosed, Live, by_both}
use Rattle.theory.specs.{Propagation.{by_empty, open_literals}, declared.accepted.Accepted.Accepted}
use Rattle.theory.specs.declared.accepted.Accepted.TheVariants.{Empty, Ignored, Pr, Rat, Rup}
use Rattle.theory.specs.declared.drat_rules.DratRules.{DratRules}

-- ---- What an assignment says of a complement

pub holds-complement : (v : Assignment) (l : Literal) → holds v (complement l) ≡ not (holds v l)
unfolding complement holds
holds-complement v l = grind (arith, nat_tests)

pub complement_false : (v : Assignment) (l : Literal) → holds v l ≡ true
    → holds v (complement l) ≡ true → ⊥
complement_false v l h g = true≢false (sym g ∙ holds-complement v l ∙ ap not h)

pub complement_true : (v : Assignment) (l : Literal) → holds v (complement l) ≡ false
    → holds v l ≡ true
complement_true v l h = search (rules, cases_Bool, true≢false, holds-complement)

-- these literals are true
abbrev AreTrue : Assignment → List Literal → Type 0
AreTrue v ls = (a : Literal) → has ls a ≡ true → holds v a ≡ true

module _ (v : Assignment) (live : Live) where
  -- the true literals of a model are closed under the unit rule
  pub closed_by_model : Models v live → IsClosed live (holds v)
  closed_by_model models = record {
    unit = λ k c at m member others.
        let w = any_some (holds v) c (models k c at) in
        search (rules, cases_eq, complement_false);
  }

  -- under an assignment that makes all live clauses and all assumed literals true, what is forced
  -- is true
  pub forced_true : (assumed : List Literal) (l : Literal) → Models v live → AreTrue v assumed
      → Forced live assumed l → holds v l ≡ true
  forced_true assumed l models true_at forced =
      forced.in_each (holds v) (closed_by_model models) true_at

  pub clash_false : (assumed : List Literal) → Models v live → AreTrue v assumed
      → Clash live assumed → ⊥
  clash_false assumed models true_at (by_empty k at) = false≢true (models k [] at)
  clash_false assumed models true_at (by_both l f g) =
      complement_false v l (search (rules, forced_true)) (search (rules, forced_true))

  -- a clause with RUP is true in every model
  pub rup_true : (c : Clause) → Models v live → HasRup live c → satisfies v c ≡ true
  rup_true c models rup =
      true_from_ne_false _ (λ fails. clash_false (complements c) models (λ a member.
      complement_true v a (any_none (holds v) c (complement a) fails (complements_has c a member)))
      rup)

-- ---- The assignment in which a witness is true

unfoldable pub override : Assignment → List Literal → Assignment
override v witness x =
    if has witness (2 * x) then true else if has witness (2 * x + 1) then false else v x

module _ (v : Assignment) (witness : List Literal) (l : Literal) where
  pub override_true : has witness l ≡ true → has witness (complement l) ≡ false
      → holds (override v witness) l ≡ true
  unfolding override holds complement
  override_true member absent = grind (arith, nat_tests)

  pub override_keeps : holds v l ≡ true → has witness (complement l) ≡ false
      → holds (override v witness) l ≡ true
  unfolding override holds complement
  override_keeps h absent = grind (arith, nat_tests)

-- ---- RAT and PR keep satisfiability

ruleset rest_steps = (has_append_cases, true≢false, any_none, override_keeps)

-- a model of the live clauses and of one more
abbrev pub HasModelWith : Live → Clause → Type 0
HasModelWith live c = (v : Assignment) × Models v live × (satisfies v c ≡ true)

module _ (live : Live) (c : Clause) where
  -- Where a clause is false and has PR, making the witness true makes it true and keeps every live
  -- clause true.
  pub pr_keeps : (witness : List Literal) → HasPr live c witness → HasModel live
      → HasModelWith live c
  pr_keeps witness pr (v, models) = elim (cases_Bool (satisfies v c)) [
    | inl e ↦ (v, models, e)
    | inr e ↦ (override v witness, kept e, met c pr.meets)
  ]
    where
      met : (d : Clause) → (l : Literal) × (has d l ≡ true) × (has witness l ≡ true)
          → satisfies (override v witness) d ≡ true
      met d (l, member, set) =
          any_from _ d l member (override_true v witness l set (pr.consistent l set))

      in_rest : satisfies v c ≡ false → (d : Clause) → (l : Literal)
          → has (c ++ open_literals witness d) l ≡ true → holds v l ≡ true
          → (has d l ≡ true) × (holds (override v witness) l ≡ true)
      in_rest fails d l member h = grind (arith, rest_steps, filter_has, not-true)

      kept : satisfies v c ≡ false → Models (override v witness) live
      kept fails k d at = elim (pr.others k d at) [
        | inl m ↦ met d m
        | inr rup ↦
            let w = any_some (holds v) _ (rup_true v live _ models rup) in
            let r = in_rest fails d w.0 w.1 w.2 in any_from _ d w.0 r.0 r.1
      ]

  -- the same for RAT, where the pivot is made true
  pub rat_keeps : (pivot : Literal) → HasRat live c pivot → HasModel live → HasModelWith live c
  rat_keeps pivot rat (v, models) = elim (cases_Bool (satisfies v c)) [
    | inl e ↦ (v, models, e)
    | inr e ↦ (changed, kept e, any_from _ c pivot rat.holds_pivot made_true)
  ]
    where
      changed : Assignment
      changed = override v (pivot ∷ [])

      other : (l : Literal) → pivot ≢ complement l → has (pivot ∷ []) (complement l) ≡ false
      other l ne = ap (λ b. b || false) (ne_eqb pivot (complement l) ne)

      made_true : holds changed pivot ≡ true
      made_true = search (rules, arith, override_true, has_head, other, complement-other)

      in_rest : satisfies v c ≡ false → (d : Clause) (l : Literal)
          → has (c ++ without d (complement pivot)) l ≡ true → holds v l ≡ true
          → (has d l ≡ true) × (holds changed l ≡ true)
      in_rest fails d l member h =
          grind (arith, rest_steps, without_has, complement-complement, other)

      kept : satisfies v c ≡ false → Models changed live
      kept fails k d at = elim (cases_Bool (has d (complement pivot))) [
        | inl member ↦
            let w = any_some _ _ (rup_true v live _ models (rat.candidates k d at member)) in
            let r = in_rest fails d w.0 w.1 w.2 in any_from _ d w.0 r.0 r.1
        | inr absent ↦
            let w = any_some (holds v) d (models k d at) in
            search (rules, any_from, override_keeps, true≢false, complement-complement)
      ]

-- ---- Accepted steps keep satisfiability, and a verified formula has no model

-- a clause that was accepted is true in some model of those before it
redundant_keeps : (live : Live) (c : List Literal) (word : Accepted) → IsRedundant live c word
    → HasModel live → HasModelWith live c
redundant_keeps live c Rup rup m = (m.0, m.1, rup_true m.0 live c m.1 rup)
redundant_keeps live [] Empty rup m = (m.0, m.1, rup_true m.0 live [] m.1 rup)
redundant_keeps live (pivot ∷ rest) Rat rat m = rat_keeps live (pivot ∷ rest) pivot rat m
redundant_keeps live c Pr pr m = pr_keeps live c pr.0 pr.1 m
redundant_keeps live c word never m = grind arith

-- no model makes the empty clause true
empty_refutes : (live : Live) (c : List Literal) → IsRedundant live c Empty → HasModel live → ⊥
empty_refutes live [] rup m = false≢true (rup_true m.0 live [] m.1 rup)
empty_refutes live (l ∷ c) never m = never

-- ---- DRAT

listed_redundant : (live : List Clause) (c set : List Literal) (word : Accepted)
    → AnswersListed (slice_get live) c set (Ok word) → IsRedundant (slice_get live) c word
listed_redundant live c (l ∷ set) Rup a = a.1
listed_redundant live c set word a = grind arith

models_more : (v : Assignment) (live : List Clause) (c : Clause) → Models v (slice_get live)
    → satisfies v c ≡ true → Models v (slice_get (c ∷ live))
models_more v live c h h2 = search rules

-- the clauses that are left were there before
pub take_off_from : (c : Clause) (live : List Clause) (k : ℕ) (d : Clause)
    → slice_get (take_off c live) k ≡ Some d → (j : ℕ) × (slice_get live j ≡ Some d)
take_off_from c [] k d at = absurd (none-some d at)
take_off_from c (e ∷ live) zero d at = elim (cases_Bool (same_clause c e)) [
  | inl same ↦ (1, grind arith)
  | inr other ↦ (0, grind arith)
]
take_off_from c (e ∷ live) (suc k) d at = elim (cases_Bool (same_clause c e)) [
  | inl same ↦ (suc (suc k), grind arith)
  | inr other ↦ let w = take_off_from c live k d (grind arith) in (suc w.0, w.1)
]

taken_off_keeps : (live : List Clause) (c : Clause) → HasModel (slice_get live)
    → HasModel (slice_get (take_off c live))
taken_off_keeps live c m = (m.0, grind (arith, take_off_from))

pub drat_keeps : (rules : DratRules) (live : List Clause) (step : DratStep) (word : Accepted) → AnswersDrat rules live step (Ok word) → HasModel (slice_get live) → HasModel (slice_get (after_drat live step word))
drat_keeps rules live (add c set) word answer m =
    grind (arith, redundant_keeps, slice_get, listed_redundant, models_more)
drat_keeps rules live (delete c) Ignored answer m = m
drat_keeps rules live (delete c) word answer m = taken_off_keeps live c m

pub drat_refutes : (rules : DratRules) (live : List Clause) (step : DratStep)
    → AnswersDrat rules live step (Ok Empty) → HasModel (slice_get live) → ⊥
drat_refutes rules live (add c set) answer m = grind (arith, empty_refutes, listed_redundant)
drat_refutes rules live (delete c) answer m = answer

-- ---- LRAT

models_with : (v : Assignment) (live : Live) (id : ℕ) (c : Clause) → Models v live
    → satisfies v c ≡ true → Models v (with_clause live id c)
models_with v live id c models h k d at = search rules

models_without_all : (v : Assignment) (ids : List ℕ) (live : Live) → Models v live
    → Models v (without_ids live ids)
models_without_all v [] live models = models
models_without_all v (id ∷ ids) live models = models_without_all v ids _ (search rules)

pub lrat_keeps : (state : LratState) (step : LratStep) (word : Accepted)
    → AnswersLrat state step (Ok word) → HasModel state.live → HasModel (after_lrat state step).live
lrat_keeps state (add_lrat id c units groups) word answer m =
    search (rules, redundant_keeps, lrat_redundant, models_with)
lrat_keeps state (delete_lrat ids) word answer m = (m.0, models_without_all m.0 ids state.live m.1)

pub lrat_refutes : (state : LratState) (step : LratStep) → AnswersLrat state step (Ok Empty)
    → HasModel state.live → ⊥
lrat_refutes state step h h2 = search (rules, empty_refutes, lrat_redundant, deletion_word)
