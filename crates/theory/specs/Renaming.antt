-- Variables under other names (our own: to a rule a name means nothing).
use Rattle.std.specs.Prelude.{◌≡◌, ℕ, ◌+◌, ◌*◌, ◌%◌, List, map, Ok, Err, IsTrue, Some}
use Rattle.std.specs.Prelude.{option_map, slice_get}
use Rattle.cnf_base.specs.Literals.{Literal, Clause, variable, has}
use Rattle.proofs.specs.Steps.{Step}
use Rattle.theory.specs.Answers.{StepAnswer}
use Rattle.theory.specs.Propagation.{Live}
use Rattle.theory.specs.Rules.{State, by_ids, by_copies}
use Rattle.theory.specs.Verdicts.{Ending, refused}
use Rattle.theory.specs.declared.refusal.Refusal.{Refusal}
use Rattle.theory.specs.declared.refusal.Refusal.TheVariants.{NeitherRupNorRat}

-- the literal of the variable under its new name
abbrev pub renamed : (ℕ → ℕ) → Literal → Literal
renamed name l = 2 * name (variable l) + l % 2

-- a step with new names; its hints and its identifier stay
abbrev pub step_renamed : (Literal → Literal) → Step → Step
step_renamed f step =
    record { kind = step.kind; id = step.id; lits = map f step.lits; hints = step.hints }

-- a refusal tells the pivot by its new name
abbrev pub refusal_renamed : (Literal → Literal) → Refusal → Refusal
refusal_renamed f (NeitherRupNorRat pivot) = NeitherRupNorRat (f pivot)
refusal_renamed f r = r

-- an answer with new names
abbrev pub answer_renamed : (Literal → Literal) → StepAnswer → StepAnswer
answer_renamed f (Ok word) = Ok word
answer_renamed f (Err r) = Err (refusal_renamed f r)

-- how a check ends, with new names
abbrev pub ending_renamed : (Literal → Literal) → Ending → Ending
ending_renamed f (refused r) = refused (refusal_renamed f r)
ending_renamed f ending = ending

-- each clause of the other is that of the one, with new names
abbrev pub AreRenamed : (Literal → Literal) → Live → Live → Type 0
AreRenamed f live other = (k : ℕ) → other k ≡ option_map (map f) (live k)

-- the renaming takes no two of these literals' variables to one: the old name can be told
abbrev pub IsUndone : (name back : ℕ → ℕ) → List Literal → Type 0
IsUndone name back lits =
    (l : Literal) → IsTrue (has lits l) → back (name (variable l)) ≡ variable l

-- that of each of these clauses
abbrev pub AreUndone : (name back : ℕ → ℕ) → Live → Type 0
AreUndone name back live = (k : ℕ) (c : Clause) → live k ≡ Some c → IsUndone name back c

-- that of each of these steps
abbrev pub StepsAreUndone : (name back : ℕ → ℕ) → List Step → Type 0
StepsAreUndone name back steps =
    (k : ℕ) (step : Step) → slice_get steps k ≡ Some step → IsUndone name back step.lits

-- The second state is the first one with new names, and none of these is that of two variables.
abbrev pub IsRenamed : (name back : ℕ → ℕ) → State → State → Type 0
IsRenamed name back (by_ids s) (by_ids t) =
    AreRenamed (renamed name) s.live t.live × (t.top ≡ s.top) × AreUndone name back s.live
IsRenamed name back (by_copies rules live) (by_copies rules_too other) =
    (rules_too ≡ rules) × (other ≡ map (map (renamed name)) live)
    × AreUndone name back (slice_get live)
IsRenamed name back _ _ = ⊥
