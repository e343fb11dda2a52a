-- The verdict on a list of steps under either rule (our own profile: the first refused step, or
-- the first accepted empty clause, ends the check).
use Rattle.std.specs.Prelude.{◌≡◌, Bool, true, false, List, [], ◌∷◌, Ok, Err, MatchBool, ◌⊎◌}
use Rattle.std.specs.Prelude.{slice_get}
use Rattle.std.specs.List.{list_any}
use Rattle.cnf_base.specs.Literals.{Clause}
use Rattle.proofs.specs.Steps.{Step}
use Rattle.theory.specs.declared.accepted.Accepted.{Accepted}
use Rattle.theory.specs.declared.accepted.Accepted.TheVariants.{Deleted, Empty}
use Rattle.theory.specs.declared.refusal.Refusal.{Refusal}
use Rattle.theory.specs.Propagation.{IsRootReason}
use Rattle.theory.specs.Rules.{Rule, State, by_copies, start, Answers, after, sum_of}
use Rattle.theory.specs.Answers.{StepAnswer}
use Rattle.theory.specs.Systems.{ProofSystem}

-- how a check ends: the formula is shown to have no model, a step is refused, or the proof ends
-- first
pub data Ending : Type 0 where
  verified : Ending
  refused : Refusal → Ending
  no_empty_clause : Ending

-- whether no step is looked at after one that was accepted with this word
abbrev pub is_last : Accepted → Bool
is_last Empty = true
is_last _ = false

-- The steps are taken in order, from a state on. Each that is accepted with a word goes on, up to
-- the accepted empty clause; the first that is refused ends the check. `words` are those of the
-- accepted steps.
abbrev pub EndsBy : {State : Type 0} → (State → Step → StepAnswer → Type 0) →
    (State → Step → Accepted → State) → State → List Step → List Accepted → Ending → Type 0
EndsBy MayAnswer next state [] [] ending = ending ≡ no_empty_clause
EndsBy MayAnswer next state [] (word ∷ words) ending = ⊥
EndsBy MayAnswer next state (step ∷ steps) [] ending =
    (r : Refusal) × (ending ≡ refused r) × MayAnswer state step (Err r)
EndsBy MayAnswer next state (step ∷ steps) (word ∷ words) ending =
    MayAnswer state step (Ok word)
    × MatchBool (is_last word) ((words ≡ []) × (ending ≡ verified))
    (EndsBy MayAnswer next (next state step word) steps words ending)

-- whether the clause has no literal
abbrev pub is_empty : Clause → Bool
is_empty [] = true
is_empty (l ∷ c) = false

-- A formula with an empty clause is verified before the first step.
abbrev pub VerdictBy : {State : Type 0} → ProofSystem State → List Clause → List Step →
    List Accepted → Ending → Type 0
VerdictBy system formula steps words ending =
    MatchBool (list_any is_empty formula) ((words ≡ []) × (ending ≡ verified))
    (EndsBy system.MayAnswer system.next (system.first formula) steps words ending)

-- ---- Under either rule

-- the proof system of a rule
abbrev pub system_of : Rule → ProofSystem State
system_of rule =
    record {
      first = start rule;
      MayAnswer = Answers;
      next = after;
      sum = sum_of;
    }

-- how a check ends that has come to a state
abbrev pub Ends : State → List Step → List Accepted → Ending → Type 0
Ends state steps words ending = EndsBy Answers after state steps words ending

-- the verdict by a rule
abbrev pub Verdict : Rule → List Clause → List Step → List Accepted → Ending → Type 0
Verdict rule formula steps words ending = VerdictBy (system_of rule) formula steps words ending

-- A step of DRAT, accepted with this word, deletes a clause that makes a literal of it hold for
-- good.
abbrev pub DeletesReason : State → Step → Accepted → Type 0
DeletesReason (by_copies rules live) step Deleted = IsRootReason (slice_get live) step.lits
DeletesReason _ step word = ⊥

-- One of the steps that are accepted with these words does.
abbrev pub DeletedReason : State → List Step → List Accepted → Type 0
DeletedReason state (step ∷ steps) (word ∷ words) =
    DeletesReason state step word ⊎ DeletedReason (after state step word) steps words
DeletedReason state _ _ = ⊥
