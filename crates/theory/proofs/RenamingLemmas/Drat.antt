-- The rule of DRAT under other names.
use Rattle.{cnf_base.proofs.SetLemmas.has_head, std.specs.List.{drop-map, list_any, prefix_len}}
use Rattle.cnf_base.specs.Literals.{Clause, Literal, complement, same_clause}
use Rattle.proofs.specs.{Steps.{clause_part, witness_part}, declared.step_buf.StepKind.StepKind}
use Rattle.std.proofs.Common.{Err, List, Ok, Option, Some, [], ap, arith, eqb, map, not, option_map}
use Rattle.std.proofs.Common.{refl, rules, slice_get, suc, sym, zero, ℕ, ◌∙◌, ◌∷◌, ◌≡◌}
use Rattle.std.proofs.lemmas.{List.length-map, Option.{none-some, same_Some, slice_get-map}}
use Rattle.{std.specs.List.take-map, theory.specs.{Answers.StepAnswer, Drat.take_off}}
use Rattle.theory.proofs.RenamingLemmas.Clauses.{AreAmong, GoesTo, LiveAmong, Renames, back_there}
use Rattle.theory.proofs.RenamingLemmas.Clauses.{conflicts_mapped, equal_is, mapped_among}
use Rattle.theory.proofs.RenamingLemmas.{Clauses.same_mapped, Forced.{reason_image, rup_of}}
use Rattle.theory.proofs.RenamingLemmas.Forced.{Carries, carries_back, pr_image, rat_image}
use Rattle.theory.specs.Drat.{AnswersAdd, AnswersDelete, AnswersDrat, AnswersListed, drat_step_of}
use Rattle.theory.specs.Drat.{AnswersWithWitness, DratStep, IsKeptUnit, add, after_drat, delete}
use Rattle.theory.specs.Propagation.{HasPr, HasRat, HasRup, IsRootReason, Live}
use Rattle.theory.specs.{Renaming.answer_renamed, declared.drat_rules.DratRules.DratRules}
use Rattle.theory.specs.declared.accepted.Accepted.{Accepted, TheVariants.{Empty, Pr, Rat, Rup}}
use Rattle.theory.specs.declared.refusal.Refusal.TheVariants.{InconsistentSet, NeitherRupNorPr}
use Rattle.theory.specs.declared.refusal.Refusal.TheVariants.{NeitherRupNorRat, NotRup}

-- a step whose literals are mapped
abbrev pub drat_mapped : (Literal → Literal) → DratStep → DratStep
drat_mapped f (add c witness) = add (map f c) (map f witness)
drat_mapped f (delete c) = delete (map f c)

-- the literals of a step
abbrev pub IsOf : (Literal → Type 0) → DratStep → Type 0
IsOf among (add c witness) = AreAmong among c × AreAmong among witness
IsOf among (delete c) = AreAmong among c

module _ (there back : Literal → Literal) (among : Literal → Type 0)
    (r : Renames there back among)
    (commutes : (l : Literal) → complement (back l) ≡ back (complement l)) where
  -- all literals of the clauses are among these
  abbrev AreOf : List Clause → Type 0
  AreOf live = LiveAmong among (slice_get live)

  image_back : (o : Option Clause) → ((c : Clause) → o ≡ Some c → AreAmong among c) → (d : Clause)
      → option_map (map there) o ≡ Some d → o ≡ Some (map back d)
  image_back o h d h2 = search (rules, none-some, back_there, same_Some)

  pub carried : (live other : Live) → ((k : ℕ) → other k ≡ option_map (map there) (live k))
      → LiveAmong among live → Carries there back among live other
  carried live other mapped within = record {
    renames = r;
    images = λ k c at. mapped k ∙ ap (option_map (map there)) at;
    images_back = λ k d at. image_back (live k) (within k) d (sym (mapped k) ∙ at);
    within = within;
  }

  module _ (live other : Live) (s : Carries there back among live other) where
    back_again : Carries back there (GoesTo there among) other live
    back_again = carries_back there back among live other s commutes

    -- what an image has, its clause has
    pub rup_back : (c : Clause) → AreAmong among c → HasRup other (map there c) → HasRup live c
    rup_back c within rup =
        rw (back_there _ _ _ r c within) at (rup_of _ _ _ _ _ back_again (map there c) rup)

    pub rat_back : (c : Clause) (pivot : Literal) → AreAmong among c → among pivot
        → HasRat other (map there c) (there pivot) → HasRat live c pivot
    rat_back c pivot within a rat = rw (back_there _ _ _ r c within, r.undone pivot a) at
        (rat_image _ _ _ _ _ back_again _ _ (pivot, a, refl) rat)

    pub pr_back : (c witness : List Literal) → AreAmong among c → AreAmong among witness
        → HasPr other (map there c) (map there witness) → HasPr live c witness
    pr_back c witness within w pr =
        rw (back_there _ _ _ r c within, back_there _ _ _ r witness w) at
        (pr_image _ _ _ _ _ back_again (map there c) _ (mapped_among _ _ _ r witness w) pr)

    pub reason_back : (c : Clause) → AreAmong among c → IsRootReason other (map there c)
        → IsRootReason live c
    reason_back c within reason =
        rw (back_there _ _ _ r c within) at (reason_image _ _ _ _ _ back_again (map there c) reason)

  alive_mapped : (live : List Clause) (c : Clause) → AreOf live → AreAmong among c
      → list_any (same_clause (map there c)) (map (map there) live)
      ≡ list_any (same_clause c) live
  alive_mapped [] c within w = refl
  alive_mapped (d ∷ live) c within w =
      let later = alive_mapped live c (λ k. within (suc k)) w in
      cc (same_mapped there back among r c d w (within zero d refl))

  -- ---- The live clauses as a list

  module _ (live : List Clause) (within : AreOf live) where
    abbrev other : List Clause
    other = map (map there) live

    listed : Carries there back among (slice_get live) (slice_get other)
    listed = carried (slice_get live) (slice_get other) (slice_get-map (map there) live) within

    rup_there : (c : Clause) → HasRup (slice_get live) c → HasRup (slice_get other) (map there c)
    rup_there c = rup_of there back among (slice_get live) (slice_get other) listed c

    module _ (c : List Literal) (cw : AreAmong among c) where
      rup_again : HasRup (slice_get other) (map there c) → HasRup (slice_get live) c
      rup_again = rup_back (slice_get live) (slice_get other) listed c cw

      kept_there : (rules : DratRules) → IsKeptUnit rules live c
          → IsKeptUnit rules other (map there c)
      kept_there rules kept = search (reason_image, listed)

      kept_again : (rules : DratRules) → IsKeptUnit rules other (map there c)
          → IsKeptUnit rules live c
      kept_again rules kept = search (reason_back, listed)

      delete_mapped : (rules : DratRules) (answer : StepAnswer) → AnswersDelete rules live c answer
          → AnswersDelete rules other (map there c) (answer_renamed there answer)
      delete_mapped rules answer a =
          let alive = alive_mapped live c within cw in let kept = kept_there rules in
          let again = kept_again rules in grind arith

      witness_mapped : (witness : List Literal) (answer : StepAnswer) → AreAmong among witness
          → AnswersWithWitness (slice_get live) c witness answer
          → AnswersWithWitness (slice_get other) (map there c) (map there witness)
          (answer_renamed there answer)
      witness_mapped witness (Err InconsistentSet) ww a = search (rules, conflicts_mapped)
      witness_mapped witness (Ok Rup) ww (quiet, rup) =
          (conflicts_mapped _ _ _ r witness ww ∙ quiet, rup_there c rup)
      witness_mapped witness (Ok Pr) ww (quiet, none, pr) = (
        conflicts_mapped _ _ _ r witness ww ∙ quiet,
        λ b. none (rup_again b),
        pr_image _ _ _ _ _ listed c witness ww pr,
      )
      witness_mapped witness (Err NeitherRupNorPr) ww (quiet, none, no_pr) = (
        conflicts_mapped _ _ _ r witness ww ∙ quiet,
        λ b. none (rup_again b),
        λ b. no_pr (pr_back _ _ listed c witness cw ww b),
      )
      witness_mapped witness answer ww a = absurd a

    add_mapped : (c : List Literal) (answer : StepAnswer) → AreAmong among c
        → AnswersAdd (slice_get live) c answer
        → AnswersAdd (slice_get other) (map there c) (answer_renamed there answer)
    add_mapped [] (Ok Empty) w a = rup_there [] a
    add_mapped [] (Err NotRup) w a = search rup_again
    add_mapped (l ∷ c) (Ok Rup) w a = rup_there (l ∷ c) a
    add_mapped (l ∷ c) (Ok Rat) w (none, rat) = (
      λ b. none (rup_again (l ∷ c) w b),
      rat_image _ _ _ _ _ listed (l ∷ c) l (w l (has_head l c)) rat,
    )
    add_mapped (l ∷ c) (Err (NeitherRupNorRat m)) w (is, none, no_rat) = (
      ap there is,
      λ b. none (rup_again (l ∷ c) w b),
      λ b. no_rat (rat_back _ _ listed (l ∷ c) l w (w l (has_head l c)) b),
    )
    add_mapped c answer w a = absurd a

    listed_mapped : (c witness : List Literal) (answer : StepAnswer) → AreAmong among c
        → AreAmong among witness → AnswersListed (slice_get live) c witness answer
        → AnswersListed (slice_get other) (map there c) (map there witness)
        (answer_renamed there answer)
    listed_mapped c witness answer h h2 h3 = search (rules, add_mapped, witness_mapped)

    pub drat_answers_mapped : (rules : DratRules) (step : DratStep) (answer : StepAnswer)
        → IsOf among step → AnswersDrat rules live step answer
        → AnswersDrat rules other (drat_mapped there step) (answer_renamed there answer)
    drat_answers_mapped rules (add c witness) answer w a = search listed_mapped
    drat_answers_mapped rules (delete c) answer w a = delete_mapped c w rules answer a

  -- ---- What is alive after a step

  take_off_mapped : (live : List Clause) (c : Clause) → AreOf live → AreAmong among c
      → take_off (map there c) (map (map there) live) ≡ map (map there) (take_off c live)
  take_off_mapped [] c within w = refl
  take_off_mapped (d ∷ live) c within w =
      let same = same_mapped there back among r c d w (within zero d refl) in
      let later = take_off_mapped live c (λ k. within (suc k)) w in search rules

  pub after_mapped : (live : List Clause) (step : DratStep) (word : Accepted)
      → ((k : ℕ) (d : Clause) → slice_get live k ≡ Some d → AreAmong among d) → IsOf among step
      → after_drat (map (map there) live) (drat_mapped there step) word
      ≡ map (map there) (after_drat live step word)
  after_mapped live step word h h2 = search (rules, take_off_mapped)

  -- ---- The parts of an addition

  prefix_mapped : (first : Literal) (c : List Literal) → among first → AreAmong among c
      → prefix_len (λ l. not (eqb l (there first))) (map there c)
      ≡ prefix_len (λ l. not (eqb l first)) c
  prefix_mapped first [] a w = refl
  prefix_mapped first (k ∷ c) a w =
      let later = prefix_mapped first c a (search rules) in
      cc (equal_is there back among r k first (w k (has_head k c)) a)

  pub clause_part_mapped : (lits : List Literal) → AreAmong among lits
      → clause_part (map there lits) ≡ map there (clause_part lits)
  clause_part_mapped [] w = refl
  clause_part_mapped (first ∷ rest) w =
      let same = prefix_mapped first rest (search rules) (search rules) in
      cc (take-map there (prefix_len (λ l. not (eqb l first)) rest) rest)

  pub witness_part_mapped : (lits : List Literal) → AreAmong among lits
      → witness_part (map there lits) ≡ map there (witness_part lits)
  witness_part_mapped lits w = search (rules, clause_part_mapped, length-map, drop-map)

  pub drat_step_mapped : (rules : DratRules) (kind : StepKind) (lits : List Literal)
      → AreAmong among lits
      → drat_step_of rules kind (map there lits) ≡ drat_mapped there (drat_step_of rules kind lits)
  drat_step_mapped options kind lits h = search (rules, clause_part_mapped, witness_part_mapped)
