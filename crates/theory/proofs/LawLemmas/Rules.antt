-- What both rules share: a step has at most one answer, and answers, states and sums depend only on
-- the clauses.
use Rattle.{cnf_base.specs.Literals.{Clause, Literal}, std.proofs.Common.{◌∙◌, ◌∷◌, ◌≡◌}}
use Rattle.{proofs.specs.Steps.Step, theory.specs.Models.HasModel}
use Rattle.std.proofs.Common.{Err, List, Ok, [], arith, nat_le, rules, slice_get, sym, true≢false}
use Rattle.{std.proofs.lemmas.Bool.cases_Bool, theory.specs.declared.drat_rules.DratRules.DratRules}
use Rattle.theory.proofs.{DratLemmas.Copies.drat_same, LratLemmas.LiveSets.SameClauses-trans}
use Rattle.theory.{proofs.LawLemmas.Sizes.{sums_same, total_same}, specs.Answers.StepAnswer}
use Rattle.theory.proofs.LawLemmas.Truth.{drat_keeps, drat_refutes, lrat_keeps, lrat_refutes}
use Rattle.theory.specs.Drat.{AnswersDelete, AnswersDrat, AnswersListed, DratStep}
use Rattle.theory.specs.Lrat.{AnswersChain, AnswersLrat, ChainEnd, Group, LratState, LratStep}
use Rattle.theory.specs.{Lrat.{add as add_lrat, delete as delete_lrat, open_with}, Propagation.Live}
use Rattle.theory.specs.Rules.{Answers, IsSatisfiable, Rule, Same, State, after, by_copies, by_ids}
use Rattle.theory.specs.{Rules.{start, sum_of}, declared.refusal.Refusal.TheVariants.NotRup}
use Rattle.theory.specs.declared.accepted.Accepted.{Accepted, TheVariants.{Empty, Pr, Rat, Rup}}
use Rattle.theory.specs.declared.refusal.Refusal.TheVariants.{NeitherRupNorPr, NeitherRupNorRat}
use Rattle.theory.proofs.DratLemmas.Copies as copies
use Rattle.theory.proofs.LratLemmas.States as ids

-- ---- A step has at most one answer, under each rule

-- ---- DRAT

listed_unique : (live : Live) (c set : List Literal) (first second : StepAnswer)
    → AnswersListed live c set first → AnswersListed live c set second → first ≡ second
listed_unique live [] [] (Ok Empty) (Err NotRup) a b = absurd (b a)
listed_unique live [] [] (Err NotRup) (Ok Empty) a b = absurd (a b)
listed_unique live (l ∷ c) [] (Ok Rup) (Ok Rat) a b = absurd (b.0 a)
listed_unique live (l ∷ c) [] (Ok Rup) (Err (NeitherRupNorRat m)) a b = absurd (b.1 a)
listed_unique live (l ∷ c) [] (Ok Rat) (Ok Rup) a b = absurd (a.0 b)
listed_unique live (l ∷ c) [] (Ok Rat) (Err (NeitherRupNorRat m)) a b = absurd (b.2 a.1)
listed_unique live (l ∷ c) [] (Err (NeitherRupNorRat m)) (Ok Rup) a b = absurd (a.1 b)
listed_unique live (l ∷ c) [] (Err (NeitherRupNorRat m)) (Ok Rat) a b = absurd (a.2 b.1)
listed_unique live c (l ∷ set) (Ok Rup) (Ok Pr) a b = absurd (b.1 a.1)
listed_unique live c (l ∷ set) (Ok Rup) (Err NeitherRupNorPr) a b = absurd (b.1 a.1)
listed_unique live c (l ∷ set) (Ok Pr) (Ok Rup) a b = absurd (a.1 b.1)
listed_unique live c (l ∷ set) (Ok Pr) (Err NeitherRupNorPr) a b = absurd (b.2 a.2)
listed_unique live c (l ∷ set) (Err NeitherRupNorPr) (Ok Rup) a b = absurd (a.1 b.1)
listed_unique live c (l ∷ set) (Err NeitherRupNorPr) (Ok Pr) a b = absurd (a.2 b.2)
listed_unique live c set first second a b = search (rules, true≢false)

delete_unique : (rules : DratRules) (live : List Clause) (c : List Literal)
    (first second : StepAnswer) → AnswersDelete rules live c first
    → AnswersDelete rules live c second → first ≡ second
delete_unique rules live c first second a b = grind (arith, true≢false)

pub drat_unique : (rules : DratRules) (live : List Clause) (step : DratStep)
    (first second : StepAnswer) → AnswersDrat rules live step first
    → AnswersDrat rules live step second → first ≡ second
drat_unique options live step first second a b = search (rules, delete_unique, listed_unique)

-- ---- LRAT

chain_unique : (live : Live) (c : List Literal) (groups : List Group) (end : ChainEnd) (first second : StepAnswer) → AnswersChain live c groups end first → AnswersChain live c groups end second → first ≡ second
chain_unique live (pivot ∷ rest) groups (open_with ls) first second a b = search rules
chain_unique live c groups end first second a b = grind arith

pub lrat_unique : (state : LratState) (step : LratStep) (first second : StepAnswer)
    → AnswersLrat state step first → AnswersLrat state step second → first ≡ second
lrat_unique state (add_lrat id c units groups) first second a b =
    grind (arith, cases_Bool, nat_le, chain_unique)
lrat_unique state (delete_lrat ids) first second a b = a ∙ sym b

pub answers_same : (s t : State) (step : Step) (answer : StepAnswer) → Same s t
    → Answers s step answer → Answers t step answer
answers_same s t step answer same a = search (rules, ids.answers_same, drat_same)

pub after_same : (s t : State) (step : Step) (word : Accepted) → Same s t
    → Same (after s step word) (after t step word)
after_same s t step word same =
    let by_id = ids.after_same in let by_copy = copies.after_same in grind (arith, by_id, by_copy)

pub sum_same : (s t : State) → Same s t → sum_of s ≡ sum_of t
sum_same s t h = search (rules, total_same, sums_same)

pub same_trans : (s t u : State) → Same s t → Same t u → Same s u
same_trans (by_ids s) (by_ids t) (by_ids u) first second =
    (SameClauses-trans _ _ _ first.0 second.0, first.1 ∙ second.1)
same_trans (by_copies a x) (by_copies b y) (by_copies c z) first second = search rules
same_trans s t u first second = grind arith

-- ---- Models

pub keeps : (s : State) (step : Step) (word : Accepted) → Answers s step (Ok word) → IsSatisfiable s
    → IsSatisfiable (after s step word)
keeps s step word h h2 = search (rules, lrat_keeps, drat_keeps)

pub refutes : (s : State) (step : Step) → Answers s step (Ok Empty) → IsSatisfiable s → ⊥
refutes s step h h2 = search (rules, lrat_refutes, drat_refutes)

pub started : (rule : Rule) (formula : List Clause) → HasModel (slice_get formula)
    → IsSatisfiable (start rule formula)
started rule formula h = search rules

-- ---- Answers

pub answer_unique : (s : State) (step : Step) (first second : StepAnswer) → Answers s step first
    → Answers s step second → first ≡ second
answer_unique s step first second h h2 = search (rules, lrat_unique, drat_unique)
