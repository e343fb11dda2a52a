-- States under other names, what is said of their literals, and sessions under either rule.
use Rattle.{cnf_base.proofs.MapLemmas.sum_empty, steps.specs.Code.Naming.{mapped_values, with_lits}}
use Rattle.cnf_base.proofs.SetLemmas.{has_head, has_tail, same_itself, same_there, same_trans}
use Rattle.cnf_base.specs.Literals.{Clause, Literal, complement, has, same_clause, size, variable}
use Rattle.{numbering.proofs.NameLemmas.told, std.proofs.lemmas.Bool.or_right}
use Rattle.{numbering.specs.Names.{name_in, number_in}, std.specs.FinMap.{FinMap, find, is_sorted}}
use Rattle.{proofs.specs.Steps.Step, std.specs.{List.list_any, Ordering.is_lt}}
use Rattle.std.proofs.Common.{IfOk, List, OnOk, Option, Some, [], ap, arith, eq-eqb, eqb, eqb-true}
use Rattle.std.proofs.Common.{inl, inr, map, nat_cmp, option_map, refl, rules, slice_get, suc, true}
use Rattle.std.{proofs.Common.{zero, ℕ, ◌&&◌, ◌+◌, ◌∙◌, ◌∷◌, ◌≡◌}, specs.FinMap.Entries.below_all}
use Rattle.{std.proofs.lemmas.{List.length-map, Simd.map-map}, steps.specs.Session.{Held, state_of}}
use Rattle.std.proofs.lemmas.{List.Sums.sum_by-cons, Option.{none-some, slice_get-map}}
use Rattle.{std.specs.Prelude.{nat_abs, sum_by, ⊤}, theory.specs.Propagation.{Forced, Live}}
use Rattle.steps.specs.Code.Naming.{AreAllAmong, AreAmong, IsAbsent, IsGiven, LiveAmong}
use Rattle.theory.proofs.DratLemmas.Copies.{alive_at, alive_copies, copies-cons, copies-take_off}
use Rattle.theory.proofs.{DratLemmas.Copies.{copies_alive, covers_of}, LawLemmas.Rules.keeps}
use Rattle.theory.proofs.LratLemmas.{States.{has_model_copies, has_model_same}, Sums.sum_agree}
use Rattle.theory.proofs.RenamingLemmas.Clauses.{Renames, back_there, has_is, same_mapped, take_has}
use Rattle.theory.proofs.RenamingLemmas.{Drat.after_mapped, Forced.reason_image}
use Rattle.theory.proofs.RenamingLemmas.Forced.{Carries, carries_back, clash_image, forced_image}
use Rattle.theory.proofs.RenamingLemmas.Verdicts.{renamed_complement, renames}
use Rattle.theory.specs.{Answers.{StepAnswer, UnlessOutOfMemory}, Rules.{literals_of, with_input}}
use Rattle.theory.specs.Drat.{DratStep, SameLive, after_drat, copies_of, drat_step_of, take_off}
use Rattle.theory.specs.Losses.{DeleteLoses, LosesRootLiteral, StepLoses}
use Rattle.theory.specs.Lrat.{SameAt, after_lrat, step_of, with_clause, without_id, without_ids}
use Rattle.theory.specs.Renaming.{AreUndone, IsRenamed, IsUndone, renamed, step_renamed}
use Rattle.theory.specs.Rules.{Answers, IsSatisfiable, Same, State, after, by_copies, by_ids}
use Rattle.theory.specs.declared.accepted.Accepted.{Accepted, TheVariants.Deleted}
use Rattle.proofs.specs.declared.step_buf.StepKind.TheVariants as kinds
use Rattle.std.specs.FinMap as maps
use Rattle.theory.specs.Drat as d

pub given_undone : (names : List ℕ) (l : Literal) → IsGiven names l →
    number_in names (name_in names (variable l)) ≡ variable l
given_undone names l given = cc (told names given.0 given.1)

-- ---- Maps whose values are changed

module _ (f : Clause → Clause) where
  abbrev changed : List (ℕ × Clause) → List (ℕ × Clause)
  changed es = map (λ e. (e.0, f e.1)) es

  below_changed : (k : ℕ) (es : List (ℕ × Clause)) →
      below_all nat_cmp k (changed es) ≡ below_all nat_cmp k es
  below_changed k [] = refl
  below_changed k (e ∷ es) = ap (λ b. is_lt (nat_cmp k e.0) && b) (below_changed k es)

  sorted_changed : (es : List (ℕ × Clause)) → is_sorted nat_cmp (changed es) ≡ is_sorted nat_cmp es
  sorted_changed [] = refl
  sorted_changed (e ∷ es) = grind (arith, nat_cmp, below_changed, (sorted_changed es))

  find_changed : (k : ℕ) (es : List (ℕ × Clause)) →
      find nat_cmp k (changed es) ≡ option_map f (find nat_cmp k es)
  find_changed k [] = refl
  find_changed k (e ∷ es) = grind (arith, nat_cmp, (find_changed k es))

  module _ (m : FinMap nat_cmp Clause) where
    pub mapped_entries : maps.entries (mapped_values f m) ≡ changed (maps.entries m)
    unfolding mapped_values
    mapped_entries = maps.entries-from_sorted nat_cmp _ (rw sorted_changed (maps.entries_sorted m))

    pub mapped_get : (k : ℕ) → maps.get (mapped_values f m) k ≡ option_map f (maps.get m k)
    mapped_get k = grind (arith, mapped_entries, find_changed, maps.get-entries)

    pub mapped_list : maps.values (mapped_values f m) ≡ map f (maps.values m)
    mapped_list = rw mapped_entries (simp map-map)

  pub mapped_empty : mapped_values f maps.empty ≡ maps.empty
  mapped_empty = maps.empty_of_len _
      (rw (maps.len-entries, mapped_entries, length-map, ← maps.len-entries) (maps.len-empty _ _))

-- ---- What is said of each literal of the live clauses

module _ (among : Literal → Type 0) where
  -- ---- The same sets

  pub same_among : (s t : State) → Same s t → AreAllAmong among t → AreAllAmong among s
  same_among s t h h2 = grind (arith, covers_of, same_there)

  -- ---- One more clause, and fewer

  pub with_among : (live : Live) (id : ℕ) (c : Clause) → AreAmong among c → LiveAmong among live →
      LiveAmong among (with_clause live id c)
  with_among live id c a w k x = grind arith

  pub without_among : (ids : List ℕ) (live : Live) → LiveAmong among live →
      LiveAmong among (without_ids live ids)
  without_among [] live w = w
  without_among (id ∷ ids) live w =
      grind (arith, none-some, (without_among ids (without_id live id)))

  pub taken_among : (c : Clause) (live : List Clause) → LiveAmong among (slice_get live) →
      LiveAmong among (slice_get (take_off c live))
  taken_among c [] w k x at = w k x at
  taken_among c (e ∷ live) w zero x at = grind (arith, w 0 x, w 1 x)
  taken_among c (e ∷ live) w (suc k) x at =
      grind (arith, (taken_among c live (λ k. w (suc k)) k x), (w (suc (suc k)) x))

  -- ---- After a step

  -- the clause that a step adds
  abbrev AddsAmong : DratStep → Type 0
  AddsAmong (d.add c witness) = AreAmong among c
  AddsAmong (d.delete c) = ⊤

  drat_among : (live : List Clause) (step : DratStep) (word : Accepted) → AddsAmong step →
      LiveAmong among (slice_get live) → LiveAmong among (slice_get (after_drat live step word))
  drat_among live step word h h2 = grind (arith, taken_among)

  pub after_among : (s : State) (lits : List Literal) (step : Step) (word : Accepted) →
      AreAllAmong among s → AreAmong among lits →
      AreAllAmong among (after s (with_lits lits step) word)
  after_among (by_ids s) lits step word w a =
      elim step.kind
      as (λ kind. LiveAmong among (after_lrat s (step_of kind step.id lits step.hints)).live) [
        | kinds.Add ↦ with_among s.live step.id lits a w
        | kinds.Delete ↦ without_among (map nat_abs step.hints) s.live w
      ]
  after_among (by_copies rules live) lits step word w a =
      drat_among live (drat_step_of rules step.kind lits) word (grind (arith, take_has)) w

  -- a deletion adds no literal, whatever its own are
  pub deleted_among : (s : State) (lits : List Literal) (step : Step) (word : Accepted) →
      step.kind ≡ kinds.Delete → AreAllAmong among s →
      AreAllAmong among (after s (with_lits lits step) word)
  deleted_among (by_ids s) lits step word is w =
      rw is (without_among (map nat_abs step.hints) s.live w)
  deleted_among (by_copies rules live) lits step word is w = grind (arith, drat_among)

  pub input_among : (s : State) (c : Clause) → AreAllAmong among s → AreAmong among c →
      AreAllAmong among (with_input s c)
  input_among s c h h2 = grind arith

  -- literals of which one is none of these are no live clause
  pub lacks : (s : State) (lits : List Literal) (l : Literal) → has lits l ≡ true → (among l → ⊥)
      → AreAllAmong among s → IsAbsent s lits
  lacks s lits l member other given = grind (arith, alive_at, same_there)

-- ---- States under other names

-- literals whose names can be told
abbrev pub IsTold : (name back : ℕ → ℕ) → Literal → Type 0
IsTold name back l = back (name (variable l)) ≡ variable l

-- a clause that is the same as a live one is alive
any_at : (e d : Clause) (live : List Clause) (k : ℕ) → slice_get live k ≡ Some d →
    same_clause e d ≡ true → list_any (same_clause e) live ≡ true
any_at e d (c ∷ live) (suc k) at same = or_right (same_clause e c) _ (any_at e d live k at same)
any_at e d live k h h2 = search rules

copies_own : (c : Clause) (live : List Clause) → copies_of c (c ∷ live) ≡ 1 + copies_of c live
copies_own c live = grind (arith, copies-cons c c live, same_itself c)

module _ (name back : ℕ → ℕ) where
  -- ---- The same clauses

  at_same : (a b : Option Clause) → ((c : Clause) → a ≡ Some c → IsUndone name back c) →
      ((c : Clause) → b ≡ Some c → IsUndone name back c) → SameAt a b →
      SameAt (option_map (map (renamed name)) a) (option_map (map (renamed name)) b)
  at_same a b a_told b_told same =
      let alike = same_mapped (renamed name) _ _ (renames name back) in grind (arith, alike)

  take_off_renamed : (c : Clause) (live : List Clause) → IsUndone name back c →
      AreUndone name back (slice_get live) →
      take_off (map (renamed name) c) (map (map (renamed name)) live)
      ≡ map (map (renamed name)) (take_off c live)
  take_off_renamed c live told undone = after_mapped _ _ _ (renames name back)
      (renamed_complement back) live (d.delete c) Deleted undone told

  -- a live clause's image is alive
  alive_renamed : (c : Clause) (live : List Clause) → IsUndone name back c →
      AreUndone name back (slice_get live) → list_any (same_clause c) live ≡ true →
      (e : Clause) → same_clause e (map (renamed name) c) ≡ true →
      list_any (same_clause e) (map (map (renamed name)) live) ≡ true
  alive_renamed c live told undone alive e same =
      let w = alive_at c live alive in
      let alike = same_mapped _ _ _ (renames name back) c w.1 told (undone w.0 w.1 w.2) in
      any_at e (map (renamed name) w.1) _ w.0 (grind (arith, slice_get-map))
      (same_trans e _ _ same (alike ∙ w.3))

  copies_renamed : (first second : List Clause) → AreUndone name back (slice_get first) →
      AreUndone name back (slice_get second) → SameLive first second →
      (e : Clause) → copies_of e (map (map (renamed name)) first) ≡ copies_of e
      (map (map (renamed name)) second)
  copies_renamed [] [] first_told second_told same e = refl
  copies_renamed [] (c ∷ second) first_told second_told same e =
      absurd (grind (arith, copies_own c second, same.copies c))
  copies_renamed (c ∷ first) second first_told second_told same e =
      let own = copies_own c first in let is = same.copies c in
      let alive = copies_alive c second (omega arith) in let told = first_told zero c refl in
      let rest : SameLive first (take_off c second) = record {
        copies =
            λ x. grind (arith, copies-cons x c first, same.copies x, copies-take_off x c second);
      } in
      let below = copies_renamed first (take_off c second) (λ k. first_told (suc k))
      (taken_among (IsTold name back) c second second_told) rest e in
      let off = ap (copies_of e) (take_off_renamed c second told second_told) in
      let there = alive_renamed c second told second_told alive e in
      let image = map (renamed name) c in let others = map (map (renamed name)) second in
      let more = copies-cons e image (map (map (renamed name)) first) in
      grind (arith, more, copies-take_off e image others, alive_copies e others)

  pub renamed_same : (s t other_s other_t : State) → IsRenamed name back s other_s →
      IsRenamed name back t other_t → Same s t → Same other_s other_t
  renamed_same (by_copies rules live) (by_copies _ others) (by_copies _ _) (by_copies _ _) p q same =
      (cc, record { copies = λ e. rw (p.1, q.1) (copies_renamed live others p.2 q.2 same.1 e) })
  renamed_same s t other_s other_t p q same = grind (arith, at_same)

  -- ---- Sizes

  pub size_renamed : (c : Clause) → IsUndone name back c → size (map (renamed name) c) ≡ size c
  size_renamed [] told = refl
  size_renamed (l ∷ c) told =
      let later = λ (k : Literal) (h : has c k ≡ true). told k (has_tail l c k h) in
      cc (has_is _ _ _ (renames name back) c later l (told l (has_head l c)), size_renamed c later)

  sizes_renamed : (live : List Clause) → AreUndone name back (slice_get live) →
      sum_by size (map (map (renamed name)) live) ≡ sum_by size live
  sizes_renamed [] undone = refl
  sizes_renamed (c ∷ live) undone =
      let later = sizes_renamed live (λ k. undone (suc k)) in
      cc (sum_by-cons _ _ _, size_renamed c (undone zero c refl), sum_by-cons size c live, later)

  pub renamed_size : (s other : State) → IsRenamed name back s other →
      literals_of other ≡ literals_of s
  renamed_size (by_copies rules live) (by_copies rules_too other) r = cc (sizes_renamed live r.2)
  renamed_size s other r = grind (arith, sum_agree, size_renamed)

-- ---- Root-level literals that deletions lose

module _ (there back : Literal → Literal) (among : Literal → Type 0) where
  -- where nothing is assumed, what is forced can be told
  forced_told : (live other : Live) → Carries there back among live other → (l : Literal) →
      Forced live [] l → back (there l) ≡ l
  forced_told live other s l forced = eqb-true _ _
      (forced.in_each (λ k. eqb (back (there k)) k) (grind (arith, eq-eqb)) (grind arith))

  module _ (commutes : (l : Literal) → complement (back l) ≡ back (complement l))
      (before first after second : Live) (s : Carries there back among before first)
      (t : Carries there back among after second) where
    loses_image : (c : Clause) → LosesRootLiteral before after c →
        LosesRootLiteral first second (map there c)
    loses_image c (inl clash) = inl (
      clash_image _ s.renames.commutes _ _ s.images [] clash.0,
      reason_image _ _ _ before first s c clash.1,
    )
    loses_image c (inr loses) = inr (
      λ clash. loses.0 (clash_image _ commutes _ _ s.images_back [] clash),
      record {
        literal = there loses.1.literal;
        forced = forced_image _ s.renames.commutes _ _ s.images [] _ loses.1.forced;
        lost = λ forced. loses.1.lost (rw (forced_told before first s _ loses.1.forced) at
            (forced_image _ commutes _ _ t.images_back [] _ forced));
      },
    )

module _ (there back : Literal → Literal) (among : Literal → Type 0)
    (r : Renames there back among) where
  listed : (live : List Clause) → LiveAmong among (slice_get live) →
      Carries there back among (slice_get live) (slice_get (map (map there) live))
  listed live within = grind (arith, slice_get-map, back_there)

module _ (name back : ℕ → ℕ) where
  module _ (live : List Clause) (c : Clause) (undone : AreUndone name back (slice_get live))
      (told : IsUndone name back c) where
    before_carried : Carries (renamed name) (renamed back) (IsTold name back) (slice_get live)
        (slice_get (map (map (renamed name)) live))
    before_carried = search (rules, listed, renames)

    after_carried : Carries (renamed name) (renamed back) (IsTold name back)
        (slice_get (take_off c live))
        (slice_get (take_off (map (renamed name) c) (map (map (renamed name)) live)))
    after_carried = rw (take_off_renamed name back c live told undone)
        (listed _ _ _ (renames name back) (take_off c live)
        (taken_among (IsTold name back) c live undone))

    loses_there : (word : Accepted) → DeleteLoses live c word →
        DeleteLoses (map (map (renamed name)) live) (map (renamed name) c) word
    loses_there Deleted loses =
        loses_image _ _ _ (renamed_complement back) _ _ _ _ before_carried after_carried c loses
    loses_there word loses = absurd loses

    loses_back : (word : Accepted) → DeleteLoses (map (map (renamed name)) live)
        (map (renamed name) c) word → DeleteLoses live c word
    loses_back Deleted loses =
        let returned = carries_back _ _ _ _ _ before_carried (renamed_complement back) in
        let returned_too = carries_back _ _ _ _ _ after_carried (renamed_complement back) in
        rw (back_there _ _ _ (renames name back) c told) at
        (loses_image _ _ _ (renamed_complement name) _ _ _ _ returned returned_too
        (map (renamed name) c) loses)
    loses_back word loses = absurd loses

  pub renamed_loses : (s other : State) (step : Step) (word : Accepted) →
      IsRenamed name back s other → IsUndone name back step.lits →
      (StepLoses s step word → StepLoses other (step_renamed (renamed name) step) word) ×
      (StepLoses other (step_renamed (renamed name) step) word → StepLoses s step word)
  renamed_loses s other step word r told = grind (arith, loses_there, loses_back)

-- ---- What holds of a session under either rule

-- where no clause is alive, there are no literals
pub none_held : (held : Held) → held.live ≡ maps.empty → held.top ≡ 0 →
    literals_of (state_of held) ≡ 0
none_held held empty none = search (rules, arith, sum_empty)

-- so an accepted step that leaves what the rule leaves keeps a model
pub keeps_taken : (old new : State) (step : Step) (answer : StepAnswer) →
    UnlessOutOfMemory answer (Answers old step answer) →
    IfOk answer (λ word. Same new (after old step word)) →
    OnOk answer (IsSatisfiable old → IsSatisfiable new)
keeps_taken old new step answer h h2 = grind (arith, keeps, has_model_same, has_model_copies)
