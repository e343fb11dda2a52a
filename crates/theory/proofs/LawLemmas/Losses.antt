-- What deletions lose.
use Rattle.cnf_base.proofs.SetLemmas.{same_back, same_itself, same_there}
use Rattle.cnf_base.specs.Literals.{Clause, Literal, complement, has, same_clause}
use Rattle.proofs.specs.Steps.{Step, clause_part, witness_part}
use Rattle.std.proofs.Common.{IsTrue, List, Ok, Some, [], arith, inl, inr, rules, slice_get, suc}
use Rattle.std.proofs.{Common.{true, ℕ, ◌∷◌, ◌≡◌, ◌≢◌, ◌⊎◌}, lemmas.Bool.{cases_Bool, cases_eq}}
use Rattle.theory.proofs.DratLemmas.Copies.{after_same as after_drat_same, covers_of}
use Rattle.theory.proofs.{DratLemmas.Copies.same_live_symm, LawLemmas.Truth.take_off_from}
use Rattle.theory.proofs.LawLemmas.Reasons.{IsAll, all_that_follows, reason_decided}
use Rattle.theory.{proofs.LawLemmas.Rules.after_same, specs.declared.drat_rules.DratRules.DratRules}
use Rattle.theory.proofs.PropagationLemmas.Covers.{Covers, clash_covers, forced_covers}
use Rattle.theory.proofs.PropagationLemmas.{Covers.reason_covers, Forced.forced_unit}
use Rattle.theory.specs.Drat.{AnswersDrat, AnswersListed, DratStep, SameLive, add, after_drat}
use Rattle.theory.specs.{Drat.{delete, drat_step, take_off}, Verdicts.{DeletesReason, Ending, Ends}}
use Rattle.theory.specs.Laws.{LostWithReason, ReasonsAreKept, UnitsAreKept}
use Rattle.theory.specs.Losses.{DeleteLoses, HasLost, LosesLiteral, LosesRootLiteral, StepLoses}
use Rattle.theory.specs.Propagation.{Clash, Forced, IsClosed, IsRootReason, Live, by_both}
use Rattle.theory.specs.{Rules.{Answers, Same, State, after, by_copies}, Verdicts.DeletedReason}
use Rattle.theory.specs.declared.accepted.Accepted.{Accepted, TheVariants.Deleted}

-- ---- What follows with nothing assumed, and where the rules keep it

-- what follows from some clauses follows from these and others
forced_more : (live more : Live)
    → ((k : ℕ) (c : Clause) → live k ≡ Some c → (j : ℕ) × (more j ≡ Some c))
    → (l : Literal) → Forced live [] l → Forced more [] l
forced_more live more each l f =
    record { in_each = λ passes closed given. f.in_each passes (search rules) given }

-- ---- Without one copy of a clause

module _ (c : Clause) where
  -- each clause is still there, or it is a copy of the one that was taken off
  left_of : (live : List Clause) (k : ℕ) (d : Clause) → slice_get live k ≡ Some d
      → (same_clause c d ≡ true) ⊎ ((j : ℕ) × (slice_get (take_off c live) j ≡ Some d))
  left_of (e ∷ live) (suc k) d at =
      elim (cases_Bool (same_clause c e)) [
        | inl same ↦ inr (k, grind arith)
        | inr other ↦
            elim (left_of live k d at) [ inl is ↦ inl is | inr w ↦ inr (suc w.0, grind arith) ]
      ]
  left_of live k d at = search rules

  -- what follows without it followed
  pub fewer_forced : (live : List Clause) (l : Literal) → Forced (slice_get (take_off c live)) [] l
      → Forced (slice_get live) [] l
  fewer_forced live l f = forced_more _ _ (take_off_from c live) l f

  -- Where each literal that the clause makes hold still holds without it, so does all that held:
  -- what follows without the clause is closed under its unit rule too.
  pub forced_still : (live : List Clause) → ((m : Literal) → has c m ≡ true → Forced (slice_get live) [] m → ((k : Literal) → has c k ≡ true → k ≢ m → Forced (slice_get live) [] (complement k)) → Forced (slice_get (take_off c live)) [] m)
      → (l : Literal) → Forced (slice_get live) [] l → Forced (slice_get (take_off c live)) [] l
  forced_still live still l f = all.1.sound l (f.in_each _ closed (search rules))
    where
      all : (found : List Literal) × IsAll (slice_get (take_off c live)) [] found
      all = all_that_follows (take_off c live) []

      back : (x : Literal) → has all.0 x ≡ true → Forced (slice_get live) [] x
      back x h = fewer_forced live x (all.1.sound x h)

      found : (x : Literal) → Forced (slice_get (take_off c live)) [] x → has all.0 x ≡ true
      found x g = g.in_each (has all.0) all.1.closed (search rules)

      closed : IsClosed (slice_get live) (has all.0)
      closed = record {
        unit = λ k d at m member others. elim (left_of live k d at) [
          | inr w ↦ all.1.closed.unit w.0 d w.1 m member others
          | inl same ↦ grind (arith, found, same_back, forced_unit, back, same_there)
        ];
      }

  -- a clause that is the reason of no root-level literal takes nothing with it
  pub forced_without : (live : List Clause) → (IsRootReason (slice_get live) c → ⊥) → (l : Literal)
      → Forced (slice_get live) [] l
      → Forced (slice_get (take_off c live)) [] l
  forced_without live none = search (rules, forced_still)

-- ---- Steps

kept_by_step : (rules : DratRules) (live : List Clause) (step : DratStep) (word : Accepted)
    (l : Literal) → IsTrue rules.keep_units
    → AnswersDrat rules live step (Ok word) → Forced (slice_get live) [] l
    → Forced (slice_get (after_drat live step word)) [] l
kept_by_step rules live (add c set) word l on answers f = forced_more (slice_get live)
    (slice_get (c ∷ live)) (λ k d at. (suc k, at)) l f
kept_by_step rules live step word l on answers f = grind (arith, forced_more, forced_without)

pub units_are_kept : UnitsAreKept
units_are_kept rules live last (step ∷ steps) (word ∷ words) l on leads f =
    units_are_kept rules (after_drat live step word) last steps words l on
    leads.1 (kept_by_step rules live step word l on leads.0 f)
units_are_kept rules live last steps words l on leads f = grind arith

-- ---- Reasons

-- no addition is accepted as a deletion
none_added : (live : List Clause) (c set : List Literal) → AnswersListed (slice_get live) c
    set (Ok Deleted) → ⊥
none_added live c set h = search rules

step_keeps : (rules : DratRules) (live : List Clause) (step : Step) (word : Accepted)
    → IsTrue rules.keep_units → Answers (by_copies rules live) step (Ok word)
    → DeletesReason (by_copies rules live) step word → ⊥
step_keeps rules live step word h h2 h3 = grind (arith, none_added, clause_part, witness_part)

none_before : (steps : List Step) (state : State) → DeletedReason state steps [] → ⊥
none_before [] state d = d
none_before (step ∷ steps) state d = d

ends_keep : (rules : DratRules) (steps : List Step) (live : List Clause) (words : List Accepted)
    (ending : Ending) → IsTrue rules.keep_units
    → Ends (by_copies rules live) steps words ending → DeletedReason (by_copies rules live) steps
    words → ⊥
ends_keep rules (step ∷ steps) live (word ∷ words) ending on ends deleted =
    let rest = after_drat live (drat_step rules step) word in
    let later = ends_keep rules steps rest words ending on in
    grind (arith, step_keeps, cases_Bool, none_before)
ends_keep rules steps live words ending on ends deleted = deleted

pub reasons_are_kept : ReasonsAreKept
reasons_are_kept rules formula steps words ending on verdict deleted =
    grind (arith, cases_Bool, none_before, ends_keep)

-- ---- One deletion, where nothing clashes

module _ (live : List Clause) (c : Clause) (quiet : ¬ Clash (slice_get live) []) where
  abbrev Loses : Type 0
  Loses = LosesLiteral (slice_get live) (slice_get (take_off c live))

  -- no literal of the clause was root-level
  pub none_held : ((l : Literal) → has c l ≡ true → ¬ Forced (slice_get live) [] l) → ¬ Loses
  none_held none loses = search (rules, forced_still)

  -- the one that did still does
  pub still_held : (l : Literal) → has c l ≡ true → Forced (slice_get live) [] l
      → Forced (slice_get (take_off c live)) [] l → ¬ Loses
  still_held l member held still loses =
      let clash = λ (forced : Forced (slice_get live) [] (complement l)).
      quiet (by_both l held forced) in
      loses.lost (forced_still c live (λ m m_there forced others. search (rules, cases_eq)) _
      loses.forced)

-- it was no reason
pub no_reason_kept : (live : List Clause) (c : Clause) → ¬ IsRootReason (slice_get live) c
    → ¬ DeleteLoses live c Deleted
no_reason_kept live c h = search (rules, forced_without)

-- ---- The same clauses

loses_covers : (a b s t : Live) → Covers a s → Covers s a → Covers t b → (c : Clause)
    → LosesRootLiteral a b c → LosesRootLiteral s t c
loses_covers a b s t there back left c (inl (clash, reason)) =
    inl (clash_covers a s there [] clash, reason_covers a s there c c (same_itself c) reason)
loses_covers a b s t there back left c (inr (quiet, loses)) = inr (
  λ clash. quiet (clash_covers s a back [] clash),
  record {
    literal = loses.literal;
    forced = forced_covers a s there [] _ loses.forced;
    lost = λ f. loses.lost (forced_covers t b left [] _ f);
  },
)

delete_loses_same : (c : Clause) (first second : List Clause) → SameLive first second
    → (word : Accepted) → DeleteLoses first c word → DeleteLoses second c word
delete_loses_same c first second same Deleted loses =
    let after = after_drat_same first second (delete c) Deleted same in
    search (loses_covers, covers_of, same_live_symm)
delete_loses_same c first second same word loses = absurd loses

step_loses_same : (step : Step) (word : Accepted) (first second : State) → Same first second
    → StepLoses first step word → StepLoses second step word
step_loses_same step word first second h h2 = search (rules, delete_loses_same)

pub lost_same : (steps : List Step) (words : List Accepted) (first second : State)
    → Same first second → HasLost first steps words → HasLost second steps words
lost_same (step ∷ steps) (word ∷ words) first second same lost =
    let later = lost_same steps words (after first step word) (after second step word) in
    grind (arith, step_loses_same, after_same)
lost_same steps words first second h h2 = search rules

-- ---- Reasons

pub lost_with_reason : LostWithReason
lost_with_reason (by_copies rules live) step Deleted loses = elim (reason_decided live step.lits) [
  | inl reason ↦ reason
  | inr none ↦ absurd (no_reason_kept live step.lits none loses)
]
lost_with_reason state step word loses = loses
