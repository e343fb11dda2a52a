-- What a propagation keeps of the literals that are true, as assumptions come and go.
use Rattle.cnf_base.proofs.SetLemmas.{has_append_cases, has_append_left, has_append_right}
use Rattle.{cnf_base.specs.Literals.Literal, theory.proofs.PropagationLemmas.Unit.clash_of_conflict}
use Rattle.{cnf_base.specs.Literals.has, propagation.specs.Assumptions.{AssumptionsState, IsAnswer}}
use Rattle.propagation.specs.{Code.Exact.{Extends, IsExact}, declared.answer.Answer.Answer}
use Rattle.propagation.specs.declared.answer.Answer.TheVariants.{Clash as AnswersClash, Quiet}
use Rattle.std.proofs.Common.{Bool, List, [], arith, cond, length, not, rules, sym, take, true}
use Rattle.std.proofs.{Common.{◌++◌, ◌∙◌, ◌∷◌, ◌≡◌, ◌≤◌}, lemmas.List.{length-take, take-take}}
use Rattle.theory.proofs.PropagationLemmas.Forced.{clash_through, forced_assumed, forced_through}
use Rattle.theory.specs.{Propagation.{Clash, Forced, IsClosed, Live}, Sets.{SameSet, conflicts}}
use Rattle.trail.proofs.TrailLemmas.{Longer.has_begun, MakesFalse.{begins_made, longer_made}}

-- what is forced by each of two lists that force one another is the same
pub answer_through : (live : Live) (first second : List Literal)
    → ((l : Literal) → has first l ≡ true → Forced live second l)
    → ((l : Literal) → has second l ≡ true → Forced live first l) → (a : Answer)
    → IsAnswer live first a → IsAnswer live second a
answer_through live first second there back AnswersClash h = clash_through live first second there h
answer_through live first second there back Quiet h = search (rules, arith, clash_through)

-- ---- More true literals

-- a list is no longer than one that begins with it
pub longer_from : (first second : List Literal) → take (length first) second ≡ first
    → length first ≤ length second
longer_from first second begins = grind (arith, length-take)

-- a list that begins with one that begins with a third
pub begins_on : (first second third : List Literal) → take (length first) second ≡ first
    → length first ≤ length second → take (length second) third ≡ second
    → take (length first) third ≡ first
begins_on first second third begins longer more = grind (arith, take-take)

pub extends_on : (first second third : AssumptionsState) → Extends first second
    → Extends second third → Extends first third
extends_on first second third so_far more = grind (arith, begins_on)

pub extends_made : (before after : AssumptionsState) (m : Literal) (is_open : Bool)
    → is_open ≡ not (has before.trail.lits m)
    → after.trail.lits ≡ cond is_open (before.trail.lits ++ m ∷ []) before.trail.lits
    → SameSet after.trail.reserved before.trail.reserved → after.assumptions ≡ before.assumptions
    → after.starts ≡ before.starts → Extends before after
extends_made before after m is_open was is met_is assumptions_are starts_are =
    grind (arith, begins_made, longer_made)

-- ---- One more assumption, by which the added literals are assumed too

module _ (live : Live) (before lits added : List Literal) (sound : (l : Literal) → has lits l ≡ true → Forced live before l) where
  start_forced : (l : Literal) → has (lits ++ added) l ≡ true → Forced live (before ++ added) l
  start_forced l h =
      grind (arith, has_append_cases, forced_through, forced_assumed, has_append_left, has_append_right)

  pub conflict_clashes : conflicts (lits ++ added) ≡ true → Clash live (before ++ added)
  conflict_clashes h = search (rules, clash_of_conflict, start_forced)

  module _ (more : List Literal) (same : SameSet more (lits ++ added)) (start : (l : Literal) → has before l ≡ true → has lits l ≡ true) where
    more_forced : (l : Literal) → has more l ≡ true → Forced live (before ++ added) l
    more_forced l h = start_forced l (sym (same l) ∙ h)

    assumed_set : (l : Literal) → has (before ++ added) l ≡ true → has more l ≡ true
    assumed_set l h = grind (arith, has_append_cases, has_append_left, has_append_right)

    pub answer_from : (a : Answer) → IsAnswer live more a → IsAnswer live (before ++ added) a
    answer_from = grind (arith, answer_through, start_forced, forced_assumed, assumed_set)

    pub exact_after : (all after : List Literal) → SameSet all (before ++ added)
        → take (length more) after ≡ more
        → ((l : Literal) → has after l ≡ true → Forced live more l)
        → IsClosed live (λ l. has after l) → IsExact live all after
    exact_after all after alike begins forced closed = record {
      sound = λ l h. forced_through live (before ++ added) all
          (λ k m. forced_assumed live all k (alike k ∙ m)) l
          (grind (arith, forced_through, more_forced));
      start = grind (arith, has_begun, assumed_set);
      closed = closed;
    }
