-- Root-level literals that deletions lose (our own profile; that solvers delete unit clauses which
-- a proof still needs is known from DRAT-trim's page).
use Rattle.std.specs.Prelude.{List, [], ◌∷◌, ◌⊎◌, slice_get}
use Rattle.cnf_base.specs.Literals.{Literal, Clause}
use Rattle.proofs.specs.Steps.{Step}
use Rattle.theory.specs.Drat.{take_off}
use Rattle.theory.specs.Propagation.{Live, Forced, Clash, IsRootReason}
use Rattle.theory.specs.Rules.{Rule, State, by_copies, start, after}
use Rattle.theory.specs.Systems.{drat_system}
use Rattle.theory.specs.declared.accepted.Accepted.{Accepted}
use Rattle.theory.specs.declared.accepted.Accepted.TheVariants.{Deleted}
use Rattle.theory.specs.declared.drat_rules.DratRules.{DratRules}

-- with nothing assumed a literal follows before, and not after
pub record LosesLiteral (before after : Live) : Type 0 where
  pub literal : Literal
  pub forced : Forced before [] literal
  pub lost : ¬ Forced after [] literal

-- The deletion of a clause loses a root-level literal. Past a clash all follows: there each
-- deletion of a reason clause counts.
abbrev pub LosesRootLiteral : (before after : Live) → Clause → Type 0
LosesRootLiteral before after c =
    (Clash before [] × IsRootReason before c) ⊎ (¬ Clash before [] × LosesLiteral before after)

-- A deletion in DRAT, accepted with this word, does.
abbrev pub DeleteLoses : List Clause → List Literal → Accepted → Type 0
DeleteLoses live c Deleted = LosesRootLiteral (slice_get live) (slice_get (take_off c live)) c
DeleteLoses live c word = ⊥

-- A step of DRAT, accepted with this word, does.
abbrev pub StepLoses : State → Step → Accepted → Type 0
StepLoses (by_copies rules live) step word = DeleteLoses live step.lits word
StepLoses _ step word = ⊥

-- One of the steps that are accepted with these words does, from a state on.
abbrev pub LostBy : {State : Type 0} → (State → Step → Accepted → Type 0) →
    (State → Step → Accepted → State) → State → List Step → List Accepted → Type 0
LostBy Loses next state (step ∷ steps) (word ∷ words) =
    Loses state step word ⊎ LostBy Loses next (next state step word) steps words
LostBy Loses next state _ _ = ⊥

-- from a formula on, in DRAT
abbrev pub LostInDrat : DratRules → List Clause → List Step → List Accepted → Type 0
LostInDrat rules = LostBy (λ live step. DeleteLoses live step.lits) (drat_system rules).next

-- from a state on, under either rule
abbrev pub HasLost : State → List Step → List Accepted → Type 0
HasLost state steps words = LostBy StepLoses after state steps words

-- from a formula on, under either rule
abbrev pub LostBySteps : Rule → List Clause → List Step → List Accepted → Type 0
LostBySteps rule formula = HasLost (start rule formula)
