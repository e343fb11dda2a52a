-- What is assumed while an addition is judged.
use Rattle.std.specs.FinMap as maps
use Rattle.std.specs.Prelude.{◌≡◌}
use Rattle.cnf_base.specs.Literals.{Clause, complements}
use Rattle.propagation.specs.Assumptions.{LastIsAnswered, MayAssume, Propagation, assumed_by}
use Rattle.propagation.specs.declared.answer.Answer.TheVariants.{Quiet}
use Rattle.theory.specs.Propagation.{HasRup}
use Rattle.theory.specs.Sets.{SameSet}

-- where a clause lacks RUP: the complements of its literals are assumed, and more may be
pub record IsAssumed (clauses : Propagation) (c : Clause) : Type 0 where
  pub room : MayAssume clauses.assumptions
  pub quiet : LastIsAnswered Quiet clauses.assumptions
  pub assumed : SameSet (assumed_by clauses.assumptions) (complements c)
  pub no_rup : ¬ HasRup (maps.get clauses.live) c

-- the same clauses are alive, and the same is assumed
pub record IsAsBefore (old new : Propagation) : Type 0 where
  pub live : new.live ≡ old.live
  pub assumptions : new.assumptions ≡ old.assumptions
