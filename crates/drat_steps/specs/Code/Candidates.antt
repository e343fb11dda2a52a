-- The clauses that an addition in DRAT is tried with, as the code finds them.
use Rattle.std.specs.FinMap as maps
use Rattle.std.specs.Prelude.{◌≡◌, ◌≢◌, ℕ, Some, List, [], ◌++◌, IsTrue, Bool, true, false}
use Rattle.std.specs.Prelude.{◌==◌, not, filter, IsFalse, IsSome}
use Rattle.cnf_base.specs.Literals.{Literal, Clause, complement, complements, has}
use Rattle.propagation.specs.Assumptions.{LastIsAnswered, MayAssume, Propagation, assumed_by}
use Rattle.propagation.specs.declared.answer.Answer.TheVariants.{Quiet}
use Rattle.theory.specs.Propagation.{Live, Clash}
use Rattle.theory.specs.Sets.{conflicts}
use Rattle.trail.specs.LiteralSet.{in_set}
use Rattle.trail.specs.Reduced.{is_reduced}
use Rattle.trail.specs.declared.literal_set.LiteralSet.{LiteralSet}
use Rattle.drat_steps.specs.Ready.{MeetsIfListed}
use Rattle.drat_steps.specs.declared.candidates.Candidates.TheVariants.{Holding, ReducedBy}
use Rattle.drat_steps.specs.declared.candidates.Candidates.{Candidates}
use Rattle.drat_steps.specs.declared.candidates.Clashed.{Clashed}

-- whether the clause is one of them
abbrev pub is_candidate : Candidates → Clause → Bool
is_candidate (Holding l) c = has c l
is_candidate (ReducedBy witness) c = is_reduced (in_set witness.now) c

-- whether a literal of one of them is assumed false
abbrev pub is_left : Candidates → Literal → Bool
is_left (Holding held) l = not (l == held)
is_left (ReducedBy witness) l = not (in_set witness.now (complement l))

-- what of it is assumed false
abbrev pub rest_of : Candidates → Clause → Clause
rest_of candidates c = filter (is_left candidates) c

-- each live clause that passes clashes, as far as its rest goes, with what is assumed
abbrev pub AllClash : Live → List Literal → (Clause → Bool) → (Clause → Clause) → Type 0
AllClash live assumed test rest =
    (k : ℕ) (c : Clause) → live k ≡ Some c → IsTrue (test c) →
    Clash live (assumed ++ complements (rest c))

-- some live clause that passes doesn't
pub record SomeQuiet (live : Live) (assumed : List Literal) (test : Clause → Bool)
    (rest : Clause → Clause) : Type 0 where
  pub slot : ℕ
  pub clause : Clause
  pub at : live slot ≡ Some clause
  pub passes : IsTrue (test clause)
  pub quiet : ¬ Clash live (assumed ++ complements (rest clause))

abbrev pub Searched : Live → List Literal → (Clause → Bool) → (Clause → Clause) → Bool → Type 0
Searched live assumed test rest true = AllClash live assumed test rest
Searched live assumed test rest false = SomeQuiet live assumed test rest

abbrev pub SearchedIn : Propagation → Candidates → Bool → Type 0
SearchedIn clauses candidates =
    Searched (maps.get clauses.live) (assumed_by clauses.assumptions) (is_candidate candidates)
    (rest_of candidates)

-- whether the clause in the slot is no candidate, or clashes
abbrev pub PassesAt : Live → List Literal → Candidates → ℕ → Bool → Type 0
PassesAt live assumed candidates slot true =
    (c : Clause) → live slot ≡ Some c → IsTrue (is_candidate candidates c) →
    Clash live (assumed ++ complements (rest_of candidates c))
PassesAt live assumed candidates slot false =
    (c : Clause) → live slot ≡ Some c →
    IsTrue (is_candidate candidates c)
    × ¬ Clash live (assumed ++ complements (rest_of candidates c))

abbrev pub PassesIn : Propagation → Candidates → ℕ → Bool → Type 0
PassesIn clauses = PassesAt (maps.get clauses.live) (assumed_by clauses.assumptions)

-- what it notes is left of a candidate that clashes, or nothing
pub record HasClashed (clauses : Propagation) (candidates : Candidates) (last : Clashed) : Type 0
  where
    pub left : (l : Literal) → IsTrue (has last.rest.items l) → IsTrue (is_left candidates l)
    pub clashes : last.rest.items ≢ [] → Clash (maps.get clauses.live)
        (assumed_by clauses.assumptions ++ complements last.rest.items)

-- there are literals, and the clause has them all
pub record IsWithin (rest : List Literal) (c : Clause) : Type 0 where
  pub some : rest ≢ []
  pub all : (l : Literal) → IsTrue (has rest l) → IsTrue (has c l)

-- the last assumption was quiet, a further one can stand, and the slot has a clause
pub record CanTry (clauses : Propagation) (slot : ℕ) : Type 0 where
  pub room : MayAssume clauses.assumptions
  pub quiet : LastIsAnswered Quiet clauses.assumptions
  pub alive : IsSome (maps.get clauses.live slot)

-- what an addition of the clause lists is no witness or a consistent one, and the set is filled
-- with it
pub record IsListed (set : LiteralSet) (clause witness : List Literal) : Type 0 where
  pub consistent : IsFalse (conflicts witness)
  pub meets : MeetsIfListed clause witness
  pub filled : (l : Literal) → in_set set l ≡ has witness l
