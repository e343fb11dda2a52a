-- The rule of LRAT under other names.
use Rattle.{cnf_base.proofs.SetLemmas.{has_head, has_tail}, std.proofs.lemmas.List.map-append}
use Rattle.{cnf_base.specs.Literals.{Clause, Literal, complements}, std.specs.Option.option_or}
use Rattle.std.proofs.Common.{Bool, List, None, Option, Some, [], arith, eqb, map, option_map, refl}
use Rattle.std.proofs.{Common.{rules, ℕ, ◌∷◌, ◌≡◌}, lemmas.Option.{none-some, same_Some}}
use Rattle.std.specs.{Bool.then_some, Prelude.⊤}
use Rattle.theory.proofs.RenamingLemmas.Clauses.{AreAmong, LiveAmong, Renames, all_mapped}
use Rattle.theory.proofs.RenamingLemmas.Clauses.{append_among, complements_among, without_mapped}
use Rattle.theory.proofs.RenamingLemmas.Clauses.{complements_mapped, conflicts_mapped, equal_is}
use Rattle.theory.proofs.RenamingLemmas.Clauses.{filter_among, has_opposite, open_mapped}
use Rattle.theory.specs.{Answers.StepAnswer, Renaming.{AreRenamed, answer_renamed, refusal_renamed}}
use Rattle.theory.specs.Lrat.{AnswersChain, AnswersGroups, AnswersLrat, ChainEnd, Group, LratStep}
use Rattle.theory.specs.Lrat.{add, chain, chain_refusal, conflict, delete, deletion_refusal}
use Rattle.theory.specs.Lrat.{group_refusal, groups_refusal, is_left_out, is_unsettled, look_at}
use Rattle.theory.specs.Lrat.{not_unit, open_with, unknown, with_candidate, without_id, without_ids}
use Rattle.theory.specs.{Propagation.{Live, open_literals}, declared.refusal.Refusal.Refusal}

-- each literal of a clause is among these, where there is one
abbrev IsAmong : (Literal → Type 0) → Option Clause → Type 0
IsAmong among o = (c : Clause) → o ≡ Some c → AreAmong among c

-- the end of a walk, mapped
abbrev pub end_mapped : (Literal → Literal) → ChainEnd → ChainEnd
end_mapped f conflict = conflict
end_mapped f (open_with ls) = open_with (map f ls)
end_mapped f (unknown k) = unknown k
end_mapped f (not_unit k) = not_unit k

abbrev EndsAmong : (Literal → Type 0) → ChainEnd → Type 0
EndsAmong among (open_with ls) = AreAmong among ls
EndsAmong among conflict = ⊤
EndsAmong among (unknown k) = ⊤
EndsAmong among (not_unit k) = ⊤

-- a refusal, if there is one, mapped
abbrev refusal_mapped : (Literal → Literal) → Option Refusal → Option Refusal
refusal_mapped f o = option_map (refusal_renamed f) o

module _ (f : Literal → Literal) where
  refusal_of_end : (r : Refusal) → refusal_renamed f r ≡ r → (e : ChainEnd)
      → chain_refusal r (end_mapped f e) ≡ refusal_mapped f (chain_refusal r e)
  refusal_of_end r h e = search rules

  -- the first of two refusals
  first_mapped : (b c : Bool) (r : Refusal) (x y : Option Refusal) → c ≡ b
      → refusal_renamed f r ≡ r → y ≡ refusal_mapped f x
      → option_or (then_some c r) y ≡ refusal_mapped f (option_or (then_some b r) x)
  first_mapped b c r x y e same rest = search rules

  either_mapped : (a b x y : Option Refusal) → a ≡ refusal_mapped f x → b ≡ refusal_mapped f y
      → option_or a b ≡ refusal_mapped f (option_or x y)
  either_mapped a b x y e g = search rules

module _ (there back : Literal → Literal) (among : Literal → Type 0)
    (r : Renames there back among) where
  -- ---- Walks

  look_mapped : (k : ℕ) (o : Option Clause) (go other : Literal → ChainEnd) → IsAmong among o
      → ((l : Literal) → among l → other (there l) ≡ end_mapped there (go l))
      → look_at k (option_map (map there) o) other ≡ end_mapped there (look_at k o go)
  look_mapped k None go other w each = refl
  look_mapped k (Some []) go other w each = refl
  look_mapped k (Some (l ∷ ls)) go other w each =
      let first = w (l ∷ ls) refl l (has_head l ls) in
      let same = all_mapped there (λ m. eqb m l) (λ m. eqb m (there l)) ls
      (λ m h. equal_is _ _ _ r m l (w (l ∷ ls) refl m (has_tail l ls m h)) first) in
      let goes_on = each l first in grind arith

  left_mapped : (ls : List Literal) → AreAmong among ls → (o : Option Clause) → IsAmong among o
      → option_map (open_literals (map there ls)) (option_map (map there) o)
      ≡ option_map (map there) (option_map (open_literals ls) o)
  left_mapped ls h o h2 = search (rules, open_mapped)

  left_among : (ls : List Literal) (o : Option Clause) → IsAmong among o
      → IsAmong among (option_map (open_literals ls) o)
  left_among ls o h c h2 = search (rules, none-some, same_Some, filter_among)

  module _ (live other : Live) (mapped : AreRenamed there live other)
      (within : LiveAmong among live) where
    chain_mapped : (hints : List ℕ) (ls : List Literal) → AreAmong among ls
        → chain other (map there ls) hints ≡ end_mapped there (chain live ls hints)
    chain_mapped [] ls w = search (rules, conflicts_mapped)
    chain_mapped (k ∷ hints) ls w =
        let clash = conflicts_mapped _ _ _ r ls w in let same = mapped k in
        let left = left_mapped ls w (live k) (within k) in
        let look = look_mapped k _ (λ l. chain live (l ∷ ls) hints)
        (λ l. chain other (l ∷ map there ls) hints) (left_among ls _ (within k))
        (λ l a. chain_mapped hints (l ∷ ls) (search rules)) in grind arith

    looked : (k : ℕ) (o : Option Clause) (go : Literal → ChainEnd) → IsAmong among o
        → ((l : Literal) → among l → EndsAmong among (go l)) → EndsAmong among (look_at k o go)
    looked k (Some (l ∷ rest)) go each next =
        let first = next l (each (l ∷ rest) refl l (has_head l rest)) in grind arith
    looked k o go each next = grind arith

    -- what a walk leaves true is among these
    chain_among : (hints : List ℕ) (ls : List Literal) → AreAmong among ls
        → EndsAmong among (chain live ls hints)
    chain_among [] ls w = search rules
    chain_among (k ∷ hints) ls w =
        let left = looked k _ (λ l. chain live (l ∷ ls) hints) (left_among ls _ (within k))
        (λ l a. chain_among hints (l ∷ ls) (search rules)) in grind arith

    -- ---- Candidates

    module _ (ls : List Literal) (pivot : Literal) (w : AreAmong among ls) (a : among pivot) where
      candidate_mapped : (c : Clause) → AreAmong among c
          → with_candidate (map there ls) (map there c) (there pivot)
          ≡ map there (with_candidate ls c pivot)
      candidate_mapped c cw = search (rules, without_mapped, complements_mapped, map-append)

      candidate_among : (c : Clause) → AreAmong among c → AreAmong among (with_candidate ls c pivot)
      candidate_among c cw = search (rules, append_among, complements_among, filter_among)

      group_mapped : (earlier : List ℕ) (group : Group) (o : Option Clause) → IsAmong among o
          → group_refusal other (map there ls) (there pivot) earlier
          group (option_map (map there) o)
          ≡ refusal_mapped there (group_refusal live ls pivot earlier group o)
      group_mapped earlier group None within_o = refl
      group_mapped earlier group (Some c) within_o =
          let start = candidate_among c (within_o c refl) in
          search (rules, first_mapped, has_opposite, candidate_mapped, chain_mapped, refusal_of_end)

      groups_mapped : (groups : List Group) (earlier : List ℕ)
          → groups_refusal other (map there ls) (there pivot) earlier groups
          ≡ refusal_mapped there (groups_refusal live ls pivot earlier groups)
      groups_mapped [] earlier = refl
      groups_mapped (group ∷ groups) earlier = either_mapped there _ _ _ _
          (search (rules, group_mapped)) (groups_mapped groups (group.candidate ∷ earlier))

      unsettled_mapped : (o : Option Clause) → IsAmong among o
          → is_unsettled (map there ls) (there pivot) (option_map (map there) o)
          ≡ is_unsettled ls pivot o
      unsettled_mapped o within_o =
          grind (arith, has_opposite, candidate_mapped, conflicts_mapped, candidate_among)

      left_out_mapped : (groups : List Group) (k : ℕ)
          → is_left_out other (map there ls) (there pivot) groups k
          ≡ is_left_out live ls pivot groups k
      left_out_mapped groups k = search (rules, unsettled_mapped)

      after_groups : (groups : List Group) (o : Option Refusal) (answer : StepAnswer)
          → AnswersGroups live ls pivot groups o answer
          → AnswersGroups other (map there ls) (there pivot) groups (refusal_mapped there o)
          (answer_renamed there answer)
      after_groups groups o answer h = search (rules, left_out_mapped)

    after_chain : (c : List Literal) (groups : List Group) (end : ChainEnd) (answer : StepAnswer)
        → AreAmong among c → EndsAmong among end → AnswersChain live c groups end answer
        → AnswersChain other (map there c) groups (end_mapped there end)
        (answer_renamed there answer)
    after_chain c groups end answer cw w e = grind (arith, has_head, groups_mapped, after_groups)

  -- ---- Deletions, and what is alive after a step

  deletion_mapped : (ids : List ℕ) (live other : Live) → AreRenamed there live other
      → deletion_refusal other ids ≡ refusal_mapped there (deletion_refusal live ids)
  deletion_mapped [] live other mapped = refl
  deletion_mapped (id ∷ ids) live other mapped =
      let later = deletion_mapped ids (without_id live id) (without_id other id) (search rules) in
      grind arith

  pub without_all_mapped : (ids : List ℕ) (live other : Live) → AreRenamed there live other
      → AreRenamed there (without_ids live ids) (without_ids other ids)
  without_all_mapped [] live other mapped = mapped
  without_all_mapped (id ∷ ids) live other mapped = without_all_mapped ids _ _ (search rules)

  -- ---- A step

  -- a step whose literals are mapped
  abbrev pub lrat_mapped : LratStep → LratStep
  lrat_mapped (add id c units groups) = add id (map there c) units groups
  lrat_mapped (delete ids) = delete ids

  abbrev pub IsOfLrat : LratStep → Type 0
  IsOfLrat (add id c units groups) = AreAmong among c
  IsOfLrat (delete ids) = ⊤

  pub lrat_answers_mapped : (live other : Live) (top : ℕ) → AreRenamed there live other
      → LiveAmong among live → (step : LratStep) (answer : StepAnswer) → IsOfLrat step
      → AnswersLrat (record { live = live; top = top }) step answer
      → AnswersLrat (record { live = other; top = top }) (lrat_mapped step)
      (answer_renamed there answer)
  lrat_answers_mapped live other top mapped within (add id c units groups) answer cw e =
      let first = complements_among there back among r c cw in
      let same = complements_mapped there back among r c in
      let walk = chain_mapped live other mapped within units (complements c) first in
      let after = after_chain live other mapped within c groups (chain live (complements c) units)
      answer cw (chain_among live other mapped within units (complements c) first) in grind arith
  lrat_answers_mapped live other top mapped within (delete ids) answer cw e =
      let same = deletion_mapped ids live other mapped in grind arith
