-- A step under numbers is the step under the names that were given.
use Rattle.{cnf_base.proofs.SetLemmas.{all_each, has_head, has_tail}, std.specs.Ordering.nat_cmp}
use Rattle.{cnf_base.specs.Literals.{Clause, Literal, has, variable}, proofs.specs.Steps.Step}
use Rattle.numbering.proofs.NameLemmas.{has_new_all, kept_has_all, kept_number_all}
use Rattle.{numbering.proofs.NameLemmas.{next_is_not_given, told}, std.specs.List.list_all}
use Rattle.{numbering.specs.Names.{name_in, number_in, with_names}, std.specs.Prelude.{nat_abs, ⊤}}
use Rattle.std.proofs.Common.{Err, IfOk, IsTrue, List, None, Ok, OnOk, Option, Some, [], ap, arith}
use Rattle.std.proofs.Common.{false, inl, inr, is_none, map, option_map, refl, rules, slice_get}
use Rattle.std.proofs.Common.{subst, suc, sym, true, ℕ, ◌↔◌, ◌∙◌, ◌∷◌, ◌≡◌, ◌⊎◌}
use Rattle.std.proofs.lemmas.{Bool.cases_Bool, List.nil_from_length, Option.slice_get-map}
use Rattle.steps.proofs.StateLemmas.{IsTold, after_among, deleted_among, given_undone, input_among}
use Rattle.steps.proofs.StateLemmas.{lacks, mapped_empty, mapped_get, mapped_list, renamed_loses}
use Rattle.steps.proofs.StateLemmas.{renamed_same, renamed_size, same_among, without_among}
use Rattle.steps.specs.Code.Naming.{AreAllAmong, AreAmong, IsAbsent, IsGiven, LiveAmong}
use Rattle.steps.specs.Code.Naming.{answer_with, mapped_values, named_state, names_after}
use Rattle.steps.specs.{Code.Naming.{under_names, with_lits}, Session.{Held, state_of, state_under}}
use Rattle.theory.proofs.RenamingLemmas.{Clauses.{has_mapped, mapped_has}, Lrat.without_all_mapped}
use Rattle.theory.proofs.RenamingLemmas.Verdicts.{renames, step_answers, step_leaves}
use Rattle.theory.specs.Answers.{StepAnswer, UnlessOutOfMemory}
use Rattle.theory.specs.{Losses.StepLoses, Propagation.Live, declared.accepted.Accepted.Accepted}
use Rattle.theory.specs.Lrat.{Group, deletion_refusal, groups_refusal, without_id}
use Rattle.theory.specs.{Renaming.{IsRenamed, renamed, step_renamed}, Rules.with_input}
use Rattle.theory.specs.Rules.{Answers, Same, State, after, by_ids, drat, literals_of, lrat}
use Rattle.theory.specs.declared.refusal.Refusal.{Refusal, TheVariants.NeitherRupNorRat}
use Rattle.proofs.specs.declared.step_buf.StepKind.TheVariants as kinds
use Rattle.std.specs.FinMap as maps

-- ---- The pivot that a refusal names is the first literal of its step

-- no pivot is named
abbrev pub IsPlain : StepAnswer → Type 0
IsPlain (Ok word) = ⊤
IsPlain (Err (NeitherRupNorRat pivot)) = ⊥
IsPlain (Err _) = ⊤

abbrev AllPlain : Option Refusal → Type 0
AllPlain None = ⊤
AllPlain (Some refusal) = IsPlain (Err refusal)

pub groups_plain : (live : Live) (ls : List Literal) (pivot : Literal) (earlier : List ℕ)
    (groups : List Group) → AllPlain (groups_refusal live ls pivot earlier groups)
groups_plain live ls pivot earlier [] = tt
groups_plain live ls pivot earlier (group ∷ groups) =
    grind (arith, (groups_plain live ls pivot (group.candidate ∷ earlier) groups))

pub deletion_plain : (live : Live) (ids : List ℕ) → AllPlain (deletion_refusal live ids)
deletion_plain live [] = tt
deletion_plain live (id ∷ ids) = grind (arith, (deletion_plain (without_id live id) ids))

-- ---- By identifiers: literals aren't looked at

-- the identifiers of a deletion are refused alike
refused_alike : (ids : List ℕ) (live other : Live)
    → ((k : ℕ) → is_none (other k) ≡ is_none (live k))
    → deletion_refusal live ids ≡ deletion_refusal other ids
refused_alike [] live other same = refl
refused_alike (id ∷ ids) live other same =
    grind (arith, (refused_alike ids (without_id live id) (without_id other id)))

-- ---- By copies, and both

-- a deletion of no live clause leaves all as it was
absent_after : (name back : ℕ → ℕ) (s other : State) (step : Step) (lits : List Literal)
    (word : Accepted) → IsRenamed name back s other → step.kind ≡ kinds.Delete → IsAbsent s lits
    → IsAbsent other step.lits → Answers s (with_lits lits step) (Ok word) → IsRenamed name back
    (after s (with_lits lits step) word) (after other step word)
absent_after name back (by_ids s) (by_ids t) step lits word r is absent none a =
    let ids = map nat_abs step.hints in
    rw is (
      without_all_mapped _ _ _ (renames name back) ids s.live t.live r.0,
      r.1,
      without_among (IsTold name back) ids s.live r.2,
    )
absent_after name back s other step lits word r is absent none a = grind arith

-- ---- A step under numbers is the step under the names that were given

-- each variable that was met keeps its number
abbrev pub Extends : (names more : List ℕ) → Type 0
Extends names more =
    (v : ℕ) → has names v ≡ true → (has more v ≡ true) × (number_in more v ≡ number_in names v)

pub extends_itself : (names : List ℕ) → Extends names names
extends_itself names v h = (h, refl)

pub extends_new : (names : List ℕ) (lits : List Literal) → Extends names (with_names names lits)
extends_new names lits v h = (kept_has_all names v lits h, kept_number_all names v lits h)

-- the literals of this list have variables that were met
abbrev pub AreMet : List ℕ → List Literal → Type 0
AreMet names lits = (l : Literal) → has lits l ≡ true → has names (variable l) ≡ true

module _ (names : List ℕ) where
  abbrev numbered : List Literal → List Literal
  numbered lits = map (renamed (number_in names)) lits

  named_back : (lits : List Literal) → AreMet names lits →
      map (renamed (name_in names)) (numbered lits) ≡ lits
  named_back [] met = refl
  named_back (l ∷ lits) met =
      let later = named_back lits (λ k h. met k (has_tail l lits k h)) in
      grind (arith, told names (variable l) (met l (has_head l lits)), renames, later)

  numbered_given : (lits : List Literal) → AreMet names lits →
      AreAmong (IsGiven names) (numbered lits)
  numbered_given lits met m h = grind (arith, mapped_has)

-- ---- What is held, under names

module _ (names more : List ℕ) (extends : Extends names more) where
  extended_given : (l : Literal) → IsGiven names l → IsGiven more l
  extended_given l given = grind arith

  name_kept : (l : Literal) → IsGiven names l →
      name_in names (variable l) ≡ name_in more (variable l)
  name_kept l given = grind (arith, told)

  clause_kept : (c : Clause) → AreAmong (IsGiven names) c
      → map (renamed (name_in names)) c ≡ map (renamed (name_in more)) c
  clause_kept [] given = refl
  clause_kept (l ∷ c) given =
      grind (arith, name_kept, has_head, (clause_kept c (λ k h. given k (has_tail l c k h))))

  at_kept : (o : Option Clause) → ((c : Clause) → o ≡ Some c → AreAmong (IsGiven names) c)
      → option_map (map (renamed (name_in names))) o ≡ option_map (map (renamed (name_in more))) o
  at_kept None given = refl
  at_kept (Some c) given = ap Some (clause_kept c (given c refl))

  list_kept : (live : List Clause) → LiveAmong (IsGiven names) (slice_get live)
      → map (map (renamed (name_in names))) live ≡ map (map (renamed (name_in more))) live
  list_kept [] given = refl
  list_kept (c ∷ live) given =
      cc (clause_kept c (given 0 c refl), list_kept live (λ k. given (suc k)))

  -- what is held under numbers is, renamed, what is held under names
  pub held_renamed : (held : Held) (beside : ℕ) → AreAllAmong (IsGiven names) (state_of held)
      → IsRenamed (name_in more) (number_in more) (state_of held)
      (state_of (under_names names beside held))
  held_renamed held beside =
      elim held.rule as (λ rule. AreAllAmong (IsGiven names) (state_under rule held)
      → IsRenamed (name_in more) (number_in more) (state_under rule held)
      (state_under rule (under_names names beside held))) [
        | lrat ↦ λ given. search (rules, arith, mapped_get, at_kept, given_undone, extended_given)
        | drat rules ↦ λ given. search (arith, mapped_list, list_kept, given_undone, extended_given)
      ]

  pub all_given : (s : State) → AreAllAmong (IsGiven names) s → AreAllAmong (IsGiven more) s
  all_given s given = grind (arith, extended_given)

pub named_size : (names : List ℕ) (held : Held) (beside : ℕ) →
    AreAllAmong (IsGiven names) (state_of held)
    → literals_of (state_of (under_names names beside held)) ≡ literals_of (state_of held)
named_size names held beside given =
    renamed_size (name_in names) (number_in names) (state_of held)
    (state_of (under_names names beside held))
    (held_renamed names names (extends_itself names) held beside given)

-- ---- A clause of the formula

-- a clause of the formula was put under numbers
module _ (names more : List ℕ) (lits : List Literal) (old new : Held)
    (given : AreAllAmong (IsGiven names) (state_of old)) (more_is : more ≡ with_names names lits)
    (same : Same (state_of new) (with_input (state_of old) (numbered more lits))) where
  extends_later : Extends names more
  extends_later = rw more_is (extends_new names lits)

  met_now : AreMet more lits
  met_now = rw more_is (has_new_all names lits)

  pub input_given : AreAllAmong (IsGiven more) (state_of new)
  input_given =
      search (rules, arith, same_among, input_among, all_given, extends_later, numbered_given, met_now)

  pub input_named : Same (named_state more new) (with_input (named_state names old) lits)
  input_named =
      let before = held_renamed names more extends_later old 0 given in
      let after = held_renamed more more (extends_itself more) new 0 input_given in
      let told_all = λ (l : Literal) (h : has (numbered more lits) l ≡ true).
      given_undone more l (numbered_given more lits met_now l h) in
      rw (named_back more lits met_now) at
      (renamed_same (name_in more) (number_in more) (state_of new)
      (with_input (state_of old) (numbered more lits)) _
      (with_input (named_state names old) (map (renamed (name_in more)) (numbered more lits))) after
      (search (rules, arith, before)) same)

-- ---- A step

-- What a step under numbers shows of the step under names.
pub record IsShown (more : List ℕ) (inner outer : State) (lits : List Literal) (step : Step)
    (answer : StepAnswer) : Type 0 where
  pub answers : Answers outer (with_lits lits step) (answer_with lits answer)
  pub renamed_after : (word : Accepted) → answer ≡ Ok word →
      IsRenamed (name_in more) (number_in more)
      (after inner (with_lits (numbered more lits) step) word)
      (after outer (with_lits lits step) word)
  pub given_after : (word : Accepted) → AreAllAmong (IsGiven more)
      (after inner (with_lits (numbered more lits) step) word)
  pub loses : (word : Accepted) → answer ≡ Ok word → StepLoses inner
      (with_lits (numbered more lits) step) word ↔ StepLoses outer (with_lits lits step) word

module _ (more : List ℕ) (inner outer : State)
    (before : IsRenamed (name_in more) (number_in more) inner outer)
    (given : AreAllAmong (IsGiven more) inner) (lits : List Literal) (step : Step)
    (answer : StepAnswer)
    (a : Answers inner (with_lits (numbered more lits) step) answer) where
  -- each variable was met: this is a step under other names
  shown_met : AreMet more lits → IsShown more inner outer lits step answer
  shown_met met =
      let under = with_lits (numbered more lits) step in let back = named_back more lits met in
      let told_all = λ (l : Literal) (h : has (numbered more lits) l ≡ true).
      given_undone more l (numbered_given more lits met l h) in
      let answered =
      step_answers (name_in more) (number_in more) inner outer under answer before told_all a in
      let left = λ (word : Accepted).
      step_leaves (name_in more) (number_in more) inner outer under word before told_all in
      let lost = λ (word : Accepted).
      renamed_loses (name_in more) (number_in more) inner outer under word before told_all in
      record {
        answers = subst (λ c. Answers outer (with_lits c step) (answer_with lits answer)) back
            (subst (Answers outer (step_renamed (renamed (name_in more)) under))
            (grind (arith, deletion_plain, groups_plain)) answered);
        renamed_after = λ word is. rw back at (left word);
        given_after = λ word. after_among (IsGiven more) inner (numbered more lits) step word given
            (numbered_given more lits met);
        loses = λ word is. rw back at (lost word);
      }

  -- a deletion that is of no live clause
  shown_absent : step.kind ≡ kinds.Delete → IsAbsent inner (numbered more lits)
      → IsAbsent outer lits → IsShown more inner outer lits step answer
  shown_absent deletes absent none = record {
    answers = grind (arith, refused_alike, deletion_plain, groups_plain);
    renamed_after = λ word is. absent_after (name_in more) (number_in more) inner outer
        (with_lits lits step) (numbered more lits) word before deletes absent none (rw is at a);
    given_after = λ word.
        deleted_among (IsGiven more) inner (numbered more lits) step word deletes given;
    loses = grind arith;
  }

some_unmet : (names : List ℕ) (c : List Literal) → list_all (λ l. has names (variable l)) c ≡ false
    → (l : Literal) × (has c l ≡ true) × (has names (variable l) ≡ false)
some_unmet names (k ∷ c) some = grind (arith, has_head, has_tail, (some_unmet names c))
some_unmet names [] some = grind arith

-- what is said of each literal is said of those under other names
all_renamed : (name back : ℕ → ℕ) (among after : Literal → Type 0) →
    ((l : Literal) → among l → after (renamed name l)) →
    (s other : State) → IsRenamed name back s other → AreAllAmong among s →
    AreAllAmong after other
all_renamed name back among after each s other r given = grind (arith, mapped_has, slice_get-map)

-- a step was put under numbers
shown : (names more : List ℕ) (old : Held) (lits : List Literal) (step : Step) (answer : StepAnswer)
    → AreAllAmong (IsGiven names) (state_of old) → more ≡ names_after step.kind names lits
    → Answers (state_of old) (with_lits (numbered more lits) step) answer
    → IsShown more (state_of old) (named_state names old) lits step answer
shown names more old lits step answer given more_is a =
    let extends : Extends names more = grind (arith, (extends_new names lits)) in
    let before = held_renamed names more extends old 0 given in
    let given_more = all_given names more extends (state_of old) given in
    elim (cases_Bool (list_all (λ l. has more (variable l)) lits)) [
      | inl all ↦ shown_met more (state_of old) _ before given_more lits step answer a
          (λ l. all_each (λ m. has more (variable m)) lits l all)
      | inr some ↦
          let unmet = some_unmet more lits some in let l = unmet.0 in
          let met = λ (k : Literal). has more (variable k) ≡ true in
          let named = all_renamed (name_in more) (number_in more) (IsGiven more) met
          (grind (arith, told)) (state_of old) (named_state names old) before given_more in
          let member = has_mapped (renamed (number_in more)) lits l unmet.1 in
          shown_absent more (state_of old) _ before given_more lits step answer a
          (grind (arith, has_new_all))
          (lacks (IsGiven more) (state_of old) (numbered more lits) (renamed (number_in more) l)
          member (grind (arith, next_is_not_given)) given_more)
          (lacks met (named_state names old) lits l unmet.1 (grind arith) named)
    ]

-- what the call leaves
pub record Steps (names more : List ℕ) (old new : Held) (lits : List Literal) (step : Step)
    (result : StepAnswer) : Type 0 where
  pub given : OnOk result (AreAllAmong (IsGiven more) (state_of new))
  pub answers : UnlessOutOfMemory result
      (Answers (named_state names old) (with_lits lits step) result)
  pub state : IfOk result (λ word. Same (named_state more new)
      (after (named_state names old) (with_lits lits step) word))
  -- whether a literal was lost
  pub lost : IfOk result (λ word. IsTrue new.has_lost_literal
      ↔ (IsTrue old.has_lost_literal ⊎ StepLoses (named_state names old) (with_lits lits step) word))

pub steps : (names more : List ℕ) (old new : Held) (lits under : List Literal) (step : Step)
    (answer result : StepAnswer) → AreAllAmong (IsGiven names) (state_of old)
    → more ≡ names_after step.kind names lits → under ≡ numbered more lits
    → UnlessOutOfMemory answer (Answers (state_of old) (with_lits under step) answer)
    → IfOk answer (λ word. Same (state_of new) (after (state_of old) (with_lits under step) word))
    → IfOk answer (λ word. IsTrue new.has_lost_literal
    ↔ (IsTrue old.has_lost_literal ⊎ StepLoses (state_of old) (with_lits under step) word))
    → result ≡ answer_with lits answer → Steps names more old new lits step result
steps names more old new lits under step (Ok word) result given more_is under_is a same lost is =
    let s = shown names more old lits step (Ok word) given more_is (rw under_is at a) in
    let same_under = rw under_is at same in let lost_under = rw under_is at lost in
    let left = after (state_of old) (with_lits (numbered more lits) step) word in
    let given_new = same_among (IsGiven more) (state_of new) left same_under (s.given_after word) in
    rw is (record {
      given = given_new;
      answers = s.answers;
      state =
          renamed_same (name_in more) (number_in more) (state_of new) left (named_state more new)
          (after (named_state names old) (with_lits lits step) word)
          (held_renamed more more (extends_itself more) new 0 given_new) (s.renamed_after word refl)
          same_under;
      lost = grind (arith, s.loses word refl);
    })
steps names more old new lits under step (Err refusal) result given more_is under_is a same lost is =
    let s = shown names more old lits step (Err refusal) given more_is in
    let under_names = rw under_is at a in grind (arith, s)

-- ---- At first

pub empty_named : (names : List ℕ) (held : Held) → held.live ≡ maps.empty →
    mapped_values (map (renamed (name_in names))) held.live ≡ maps.empty
empty_named names held empty = grind (arith, mapped_empty)

no_values : maps.values (maps.empty {X = Clause} {R = nat_cmp}) ≡ []
no_values = ap (map (λ e. e.1))
    (nil_from_length _ (sym (maps.len-entries maps.empty) ∙ maps.len-empty nat_cmp Clause))

pub none_given : (names : List ℕ) (held : Held) → held.live ≡ maps.empty →
    AreAllAmong (IsGiven names) (state_of held)
none_given names held empty = grind (arith, maps.get-empty, no_values)
