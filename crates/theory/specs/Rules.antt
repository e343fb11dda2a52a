-- The rules of LRAT and of DRAT seen as one (our own): a state, what a step may be answered over
-- it, and what it leaves.
use Rattle.std.specs.Prelude.{◌≡◌, ℕ, ◌+◌, ◌-◌, ◌^◌, ◌<◌, min, sum_by, None}
use Rattle.std.specs.Prelude.{List, ◌∷◌, slice_get, ⊤}
use Rattle.cnf_base.specs.Literals.{Clause, size}
use Rattle.proofs.specs.Steps.{Step}
use Rattle.theory.specs.Drat.{AnswersDrat, after_drat, drat_step, SameLive}
use Rattle.theory.specs.Lrat.{LratState, AnswersLrat, after_lrat, lrat_step, lrat_start}
use Rattle.theory.specs.Lrat.{with_clause, SameClauses}
use Rattle.theory.specs.Models.{HasModel}
use Rattle.theory.specs.Propagation.{Live}
use Rattle.theory.specs.Sizes.{total}
use Rattle.theory.specs.Answers.{StepAnswer}
use Rattle.theory.specs.declared.accepted.Accepted.{Accepted}
use Rattle.theory.specs.declared.drat_rules.DratRules.{DratRules}

-- the rule by which a proof is checked
pub data Rule : Type 0 where
  lrat : Rule
  drat : (rules : DratRules) → Rule

-- the live clauses, each at its identifier, or as a multiset
pub data State : Type 0 where
  by_ids : LratState → State
  by_copies : (rules : DratRules) → List Clause → State

-- what a formula leaves
abbrev pub start : Rule → List Clause → State
start lrat formula = by_ids (lrat_start formula)
start (drat rules) formula = by_copies rules formula

-- what one more clause of the formula leaves
abbrev pub with_input : State → Clause → State
with_input (by_ids s) c =
    by_ids (record { live = with_clause s.live (s.top + 1) c; top = s.top + 1 })
with_input (by_copies rules live) c = by_copies rules (c ∷ live)

-- what a step may be answered
abbrev pub Answers : State → Step → StepAnswer → Type 0
Answers (by_ids s) step answer = AnswersLrat s (lrat_step step) answer
Answers (by_copies rules live) step answer = AnswersDrat rules live (drat_step rules step) answer

-- what a step leaves that was accepted with this word
abbrev pub after : State → Step → Accepted → State
after (by_ids s) step word = by_ids (after_lrat s (lrat_step step))
after (by_copies rules live) step word =
    by_copies rules (after_drat live (drat_step rules step) word)

-- the sum of the sizes of the live clauses
abbrev pub literals_of : State → ℕ
literals_of (by_ids s) = total s
literals_of (by_copies rules live) = sum_by size live

-- that sum, counted up to the greatest number of 64 bits
abbrev pub sum_of : State → ℕ
sum_of s = min (literals_of s) (2 ^ 64 - 1)

-- the same clauses: at the same identifiers, or in as many copies
abbrev pub Same : State → State → Type 0
Same (by_ids s) (by_ids t) = SameClauses s.live t.live × (s.top ≡ t.top)
Same (by_copies rules live) (by_copies rules_too others) =
    (rules ≡ rules_too) × SameLive live others
Same _ _ = ⊥

-- some assignment satisfies the live clauses
abbrev pub IsSatisfiable : State → Type 0
IsSatisfiable (by_ids s) = HasModel s.live
IsSatisfiable (by_copies rules live) = HasModel (slice_get live)

-- the rule of a state
abbrev pub rule_of : State → Rule
rule_of (by_ids s) = lrat
rule_of (by_copies rules live) = drat rules

-- no clause is alive past some identifier
pub record IsFiniteMap (live : Live) : Type 0 where
  pub bound : ℕ
  pub none : (k : ℕ) → bound < k → live k ≡ None

-- finitely many clauses are alive
abbrev pub IsFinite : State → Type 0
IsFinite (by_ids s) = IsFiniteMap s.live
IsFinite (by_copies rules live) = ⊤
