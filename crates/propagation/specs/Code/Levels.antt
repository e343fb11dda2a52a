-- How the code holds the assumptions that stand: by variable the number of the assumption that has
-- a literal of it.
use Rattle.std.specs.Prelude.{ℕ, ◌/◌, Bool, List, filter, ◌==◌, ◌||◌, [], ◌∷◌, take, ◌≡◌, ◌≤◌, ◌<◌}
use Rattle.std.specs.Prelude.{map, length, IsTrue, ◌≢◌, ⊤, IsSome}
use Rattle.cnf_base.specs.Literals.{Literal, has, variable}
use Rattle.tables.specs.ByKey.{at}
use Rattle.tables.specs.declared.by_key.ByKey.{ByKey}
use Rattle.propagation.specs.Assumptions.{Assumption}
use Rattle.trail.specs.Numbers.{number_at}
use Rattle.trail.specs.Trail.{TrailState}
use Rattle.propagation.specs.declared.answer.Answer.{Answer}
use Rattle.propagation.specs.declared.levels.Level.{Level}
use Rattle.propagation.specs.declared.levels.Levels.TheVariants.{Nothing, One, Two}
use Rattle.propagation.specs.declared.levels.Levels.{Levels}

-- ---- One on the other

abbrev pub first_number : Levels → ℕ → ℕ
first_number Nothing next = next
first_number (One first) next = first.number
first_number (Two first second) next = first.number

abbrev pub pushed : Levels → Level → Levels
pushed Nothing level = One level
pushed (One first) level = Two first level
pushed (Two first second) level = Two first second

abbrev pub with_answer : Level → Answer → Level
with_answer level answer = record { number = level.number; start = level.start; answer = answer }

abbrev pub answered : Levels → Answer → Levels
answered Nothing answer = Nothing
answered (One first) answer = One (with_answer first answer)
answered (Two first second) answer = Two first (with_answer second answer)

-- ---- What is assumed

-- the literals of the variables that pass
abbrev pub of_variables : (ℕ → Bool) → List Literal → List Literal
of_variables passes lits = filter (λ l. passes (l / 2)) lits

-- whether the variable is noted by the assumption with this number, or by one of two
abbrev pub is_noted : (ℕ → ℕ) → ℕ → ℕ → Bool
is_noted number_of number v = number_of v == number

abbrev pub is_noted_by_two : (ℕ → ℕ) → ℕ → ℕ → ℕ → Bool
is_noted_by_two number_of first second v = number_of v == first || number_of v == second

-- the assumptions that stand, the last one first
abbrev pub assumptions_of : (ℕ → ℕ) → List Literal → Levels → List Assumption
assumptions_of number_of lits Nothing = []
assumptions_of number_of lits (One first) =
    record { answer = first.answer; assumed = of_variables (is_noted number_of first.number) lits }
    ∷ []
assumptions_of number_of lits (Two first second) =
    record {
      answer = second.answer;
      assumed = of_variables (is_noted_by_two number_of first.number second.number) lits;
    }
    ∷ record {
      answer = first.answer;
      assumed = of_variables (is_noted number_of first.number) (take second.start lits);
    } ∷ []

-- how many literals were true before each of them
abbrev pub starts_of : Levels → List ℕ
starts_of Nothing = []
starts_of (One first) = first.start ∷ []
starts_of (Two first second) = second.start ∷ first.start ∷ []

-- ---- The numbers

-- the assumption is one of those that were made, and each variable that it noted is that of one of
-- these literals
pub record IsLevel (number_of : ℕ → ℕ) (made : ℕ) (lits : List Literal) (level : Level)
    : Type 0 where
  pub positive : 0 < level.number
  pub low : level.number ≤ made
  pub start : level.start ≤ length lits
  pub set : (v : ℕ) → number_of v ≡ level.number → IsTrue (has (map variable lits) v)

abbrev pub AreLevels : (ℕ → ℕ) → ℕ → List Literal → Levels → Type 0
AreLevels number_of made lits Nothing = ⊤
AreLevels number_of made lits (One first) = IsLevel number_of made lits first
AreLevels number_of made lits (Two first second) =
    IsLevel number_of made (take second.start lits) first × IsLevel number_of made lits second
    × (first.number ≢ second.number)

-- there is a number for each variable with room, none is above that of the last assumption, and
-- those that stand have theirs
pub record IsNumbered (trail : TrailState) (numbers : ByKey ℕ) (made : ℕ) (levels : Levels)
    : Type 0 where
  pub known : (v : ℕ) → IsTrue (has trail.reserved v) → IsSome (at numbers v)
  pub low : (v : ℕ) → number_at numbers v ≤ made
  pub levels_are : AreLevels (number_at numbers) made trail.lits levels

-- the variables of these literals are noted with this number, but for those that the first
-- assumption noted
pub record Notes (first number : ℕ) (lits : List Literal) (before after : ℕ → ℕ) : Type 0 where
  pub old : (v : ℕ) → before v ≡ first → after v ≡ first
  pub changed : (v : ℕ) → after v ≢ number → after v ≡ before v
  pub new : (v : ℕ) → after v ≡ number → (before v ≢ number) → IsTrue (has (map variable lits) v)
  pub all : (l : Literal) → IsTrue (has lits l) → after (l / 2) ≢ first → after (l / 2) ≡ number
