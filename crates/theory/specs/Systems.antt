-- Proof systems: what a check of a proof has to know of its rules (our own view of both).
use Rattle.std.specs.Prelude.{ℕ, ◌-◌, ◌^◌, min, sum_by, List}
use Rattle.cnf_base.specs.Literals.{Clause, size}
use Rattle.proofs.specs.Steps.{Step}
use Rattle.theory.specs.Answers.{StepAnswer}
use Rattle.theory.specs.Drat.{AnswersDrat, after_drat, drat_step}
use Rattle.theory.specs.declared.accepted.Accepted.{Accepted}
use Rattle.theory.specs.declared.drat_rules.DratRules.{DratRules}

-- A proof system: what a formula leaves to begin with, what a step may be answered, what it leaves
-- when it was accepted with a word, and the sum of the sizes of the live clauses, up to the greatest
-- number of 64 bits.
pub record ProofSystem (State : Type 0) : Type 1 where
  pub first : List Clause → State
  pub MayAnswer : State → Step → StepAnswer → Type 0
  pub next : State → Step → Accepted → State
  pub sum : State → ℕ

-- DRAT, whose state is the list of the live clauses
abbrev pub drat_system : DratRules → ProofSystem (List Clause)
drat_system rules =
    record {
      first = λ formula. formula;
      MayAnswer = λ live step. AnswersDrat rules live (drat_step rules step);
      next = λ live step. after_drat live (drat_step rules step);
      sum = λ live. min (sum_by size live) (2 ^ 64 - 1);
    }
