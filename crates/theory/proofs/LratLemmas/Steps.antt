-- What an accepted LRAT step shows.
use Rattle.cnf_base.proofs.SetLemmas.{has_append_cases, has_append_left, has_append_right}
use Rattle.{cnf_base.proofs.SetLemmas.{has_cases, has_head}, std.specs.Option.option_or}
use Rattle.cnf_base.specs.Literals.{Clause, Literal, complement, complements, has, without}
use Rattle.std.proofs.Common.{Err, List, None, Ok, Option, Some, [], arith, eqb, eqb-true, false}
use Rattle.std.{proofs.Common.{inl, inr, refl, rules, true, ℕ, ◌++◌, ◌∷◌, ◌≡◌}, specs.List.list_any}
use Rattle.std.proofs.lemmas.{Bool.{cases_Bool, false≢true, or_cases}, List.map-append}
use Rattle.theory.proofs.PropagationLemmas.Forced.{clash_through, forced_assumed, forced_through}
use Rattle.theory.proofs.PropagationLemmas.{Open.first_alone, Unit.none_left_clashes}
use Rattle.theory.proofs.PropagationLemmas.Unit.{clash_of_conflict, left_is_forced}
use Rattle.theory.specs.{Answers.StepAnswer, Laws.{IsRedundant, LratShowsRedundant}, Sets.conflicts}
use Rattle.theory.specs.Lrat.{AnswersChain, AnswersGroups, ChainEnd, Group, answer_of, chain}
use Rattle.theory.specs.Lrat.{chain_refusal, conflict, group_refusal, groups_refusal, is_left_out}
use Rattle.theory.specs.Lrat.{look_at, not_unit, open_with, unknown, with_candidate}
use Rattle.theory.specs.Propagation.{Clash, Forced, HasRat, Live, open_literals}
use Rattle.theory.specs.declared.accepted.Accepted.{Accepted, TheVariants.Deleted}
use Rattle.theory.specs.declared.refusal.Refusal.{Refusal, TheVariants.GroupWithoutConflict}

-- ---- A walk over hints adds only literals that are forced, and a conflict in it is a clash

-- these literals are forced
abbrev AreForced : Live → List Literal → List Literal → Type 0
AreForced live assumed ls = (a : Literal) → has ls a ≡ true → Forced live assumed a

-- what a walk's end says of the live clauses and of what is assumed
abbrev pub ChainMeans : Live → List Literal → ChainEnd → Type 0
ChainMeans live assumed conflict = Clash live assumed
ChainMeans live assumed (open_with ls) = AreForced live assumed ls
ChainMeans live assumed (unknown k) = Unit {0}
ChainMeans live assumed (not_unit k) = Unit {0}

module _ (live : Live) (assumed : List Literal) where
  -- the hint's clause, where the walk goes on well with a literal that is alone
  look_means : (ls : List Literal) → AreForced live assumed ls
      → (k : ℕ) (c : Clause) → live k ≡ Some c → (go_on : Literal → ChainEnd) →
      ((m : Literal) → Forced live assumed m → ChainMeans live assumed (go_on m))
      → ChainMeans live assumed (look_at k (Some (open_literals ls c)) go_on)
  look_means ls forced k c at go_on each =
      let clash = none_left_clashes live assumed ls forced k c at in
      let alone = left_is_forced live assumed ls forced k c at in
      elim (open_literals ls c) as (λ os. open_literals ls c ≡ os
      → ChainMeans live assumed (look_at k (Some os) go_on)) [
        | [] ↦ λ e. clash e
        | l ∷ rest ↦ λ e. let first = first_alone l rest in grind arith
      ] refl

  pub chain_means : (hints : List ℕ) (ls : List Literal) → AreForced live assumed ls
      → ChainMeans live assumed (chain live ls hints)
  chain_means [] ls forced = elim (cases_Bool (conflicts ls)) [
    | inl h ↦ rw h (clash_of_conflict live assumed ls forced h)
    | inr h ↦ rw h forced
  ]
  chain_means (k ∷ hints) ls forced = elim (cases_Bool (conflicts ls)) [
    | inl h ↦ rw h (clash_of_conflict live assumed ls forced h)
    | inr h ↦ rw h (grind (arith, look_means, has_cases, (chain_means hints)))
  ]

-- ---- Refusals in a row

or_none : {A : Type 0} (a b : Option A) → option_or a b ≡ None → (a ≡ None) × (b ≡ None)
or_none a b h = search rules

conflict_of_none : (r : Refusal) (end : ChainEnd) → chain_refusal r end ≡ None → end ≡ conflict
conflict_of_none r end h = search rules

-- ---- Groups

module _ (live : Live) (ls : List Literal) (pivot : Literal) where
  -- what is left of a candidate clashes
  abbrev Clashes : Clause → Type 0
  Clashes d = Clash live (with_candidate ls d pivot)

  group_clash : (earlier : List ℕ) (group : Group) (d : Clause)
      → group_refusal live ls pivot earlier group (Some d) ≡ None → Clashes d
  group_clash earlier group d e =
      let start = with_candidate ls d pivot in
      let last = or_none _ _ (or_none _ _ e).1 in
      let walk = chain live start group.hints in
      let ended = conflict_of_none (GroupWithoutConflict group.candidate) walk last.1 in
      let means = chain_means live start group.hints start (forced_assumed live start) in
      rw ended at means

  -- a candidate that a group names
  groups_clash : (groups : List Group) (earlier : List ℕ) → groups_refusal live ls pivot earlier groups ≡ None → (k : ℕ) → list_any (λ group. eqb group.candidate k) groups ≡ true → (d : Clause) → live k ≡ Some d → Clashes d
  groups_clash [] earlier e k named d at = absurd (false≢true named)
  groups_clash (group ∷ groups) earlier e k named d at =
      let parts = or_none (group_refusal live ls pivot earlier group (live group.candidate)) _ e in
      elim (or_cases (eqb group.candidate k) (list_any (λ g. eqb g.candidate k) groups) named) [
        | inl here ↦
            let same = eqb-true group.candidate k here in group_clash earlier group d (search rules)
        | inr there ↦ groups_clash groups (group.candidate ∷ earlier) parts.1 k there d at
      ]

ruleset append_steps = (has_append_cases, has_append_left, has_append_right)

-- what follows from the candidate's start follows from the complements of both clauses
resolvent_forced : (live : Live) (c d : Clause) (ls : List Literal) (pivot : Literal)
    → AreForced live (complements c) ls
    → AreForced live (complements (c ++ without d (complement pivot))) (with_candidate ls d pivot)
resolvent_forced live c d ls pivot forced a member =
    let all = map-append complement c (without d (complement pivot)) in
    search (rules, append_steps, forced_through, forced_assumed)

rat_of_groups : (live : Live) (pivot : Literal) (rest ls : List Literal) (groups : List Group)
    → AreForced live (complements (pivot ∷ rest)) ls
    → groups_refusal live ls pivot [] groups ≡ None
    → ((k : ℕ) → is_left_out live ls pivot groups k ≡ false) → HasRat live (pivot ∷ rest) pivot
rat_of_groups live pivot rest ls groups forced e none_left = record {
  holds_pivot = has_head pivot rest;
  candidates = λ k d at member.
      let none = none_left k in
      clash_through live (with_candidate ls d pivot) _ (resolvent_forced live (pivot ∷ rest) d ls
      pivot forced)
      (elim (cases_Bool (list_any (λ group. eqb group.candidate k) groups)) [
        | inl named ↦ groups_clash live ls pivot groups [] e k named d at
        | inr unnamed ↦ clash_of_conflict live _ _ (forced_assumed live _) (grind arith)
      ]);
}

-- ---- Steps

pub ok_is : (first second : Accepted) → ◌≡◌ {A = StepAnswer} (Ok first) (Ok second) → first ≡ second
ok_is first second e = cc

pub ok_err : (word : Accepted) (r : Refusal) → ◌≡◌ {A = StepAnswer} (Ok word) (Err r) → ⊥
ok_err word r e = cc

groups_redundant : (live : Live) (pivot : Literal) (rest ls : List Literal) (groups : List Group)
    (word : Accepted) → AreForced live (complements (pivot ∷ rest)) ls → (refusal : Option Refusal)
    → groups_refusal live ls pivot [] groups ≡ refusal
    → AnswersGroups live ls pivot groups refusal (Ok word) → IsRedundant live (pivot ∷ rest) word
groups_redundant live pivot rest ls groups word h refusal h2 h3 =
    search (rules, ok_err, rat_of_groups)

chain_redundant : (live : Live) (c : List Literal) (groups : List Group) (word : Accepted) (end : ChainEnd) → ChainMeans live (complements c) end → AnswersChain live c groups end (Ok word) → IsRedundant live c word
chain_redundant live c groups word end h h2 = search (rules, ok_is, ok_err, groups_redundant)

-- an addition that is accepted has RUP, or RAT on its first literal
pub lrat_redundant : LratShowsRedundant
lrat_redundant state id c units groups word answer =
    let first = complements c in
    let means = chain_means state.live first units first (forced_assumed state.live first) in
    let redundant = chain_redundant state.live c groups word (chain state.live first units) means in
    grind (arith, ok_err)

pub deletion_word : (refusal : Option Refusal) (word : Accepted)
    → ◌≡◌ {A = StepAnswer} (Ok word) (answer_of refusal) → word ≡ Deleted
deletion_word refusal word h = search rules
