-- Clauses in slots, and what is assumed of their literals (our own profile).
use Rattle.std.specs.Prelude.{◌≡◌, ℕ, Bool, true, false, List, [], ◌∷◌, ◌++◌, filter, Some, Result}
use Rattle.std.specs.Prelude.{IfOk, OnOk, OnErr, ⊤, take, IsTrue, IsSome}
use Rattle.std.specs.Ordering.{nat_cmp}
use Rattle.std.specs.FinMap as maps
use Rattle.std.specs.FinMap.{FinMap}
use Rattle.cnf_base.specs.Literals.{Literal, Clause, has, same_clause, complement, complements}
use Rattle.theory.specs.Propagation.{Live, Forced, Clash}
use Rattle.clause_db.specs.Store.{literals_in}
use Rattle.trail.specs.Trail.{TrailState}
use Rattle.theory.specs.Sets.{SameSet}
use Rattle.propagation.specs.declared.answer.Answer.{Answer}
use Rattle.propagation.specs.declared.answer.Answer.TheVariants.{Clash as AnswersClash, Quiet}
use Rattle.propagation.specs.declared.clause_source.ClauseSource.TheVariants.{Given, Stored}
use Rattle.propagation.specs.declared.clause_source.ClauseSource.{ClauseSource}
use Rattle.trail.specs.declared.value.Value.{Value}
use Rattle.trail.specs.declared.value.Value.TheVariants.{True, False, Open}

-- an assumption that stands: how it was answered, and all that is assumed up to it, which says
-- nothing after a clash
pub record Assumption : Type 0 where
  pub answer : Answer
  pub assumed : List Literal

-- what contracts see of a propagation
pub record Propagation : Type 0 where
  -- the live clauses, each in its slot
  pub live : FinMap nat_cmp Clause
  -- those that stand, the last one first
  pub assumptions : List Assumption
  -- the sum of the lengths of all lists of literals that it keeps
  pub stored : ℕ
  -- whether memory was refused to an assumption
  pub has_refused : Bool

-- no literals are kept but those of the live clauses
abbrev pub HoldsLiveAlone : Propagation → Type 0
HoldsLiveAlone p = p.stored ≡ literals_in p.live

-- the same clauses, each as a set, are in the same slots
pub record AreSameClauses (live kept : FinMap nat_cmp Clause) : Type 0 where
  pub each : (slot : ℕ) (c : Clause) → maps.get kept slot ≡ Some c →
      (d : Clause) × (maps.get live slot ≡ Some d) × IsTrue (same_clause d c)
  pub no_other : (slot : ℕ) → IsSome (maps.get live slot) → IsSome (maps.get kept slot)

-- what the assumptions that stand are seen as, with the literals that are true
pub record AssumptionsState : Type 0 where
  pub trail : TrailState
  -- those that stand, the last one first
  pub assumptions : List Assumption
  -- how many literals were true before each of them
  pub starts : List ℕ

-- a further assumption can stand on these: at most one does, and it didn't clash
abbrev pub MayAssume : List Assumption → Type 0
MayAssume [] = ⊤
MayAssume (first ∷ []) = first.answer ≡ Quiet
MayAssume _ = ⊥

-- the last assumption was answered so
abbrev pub LastIsAnswered : Answer → List Assumption → Type 0
LastIsAnswered answer [] = ⊥
LastIsAnswered answer (last ∷ _) = last.answer ≡ answer

-- all that is assumed
abbrev pub assumed_by : List Assumption → List Literal
assumed_by [] = []
assumed_by (last ∷ _) = last.assumed

-- propagation from these literals is answered so
abbrev pub IsAnswer : Live → List Literal → Answer → Type 0
IsAnswer live assumed AnswersClash = Clash live assumed
IsAnswer live assumed Quiet = ¬ Clash live assumed

-- one more assumption stands than before, with this answer; unless it clashed, exactly these
-- literals are assumed
pub record Assumes (before after : List Assumption) (answer : Answer) (assumed : List Literal)
    : Type 0 where
  pub all : List Literal
  pub stands : after ≡ record { answer = answer; assumed = all } ∷ before
  pub same : answer ≡ Quiet → SameSet all assumed

-- these literals are assumed too and the answer is that of propagation, or memory was refused, now
-- or before
pub record Assuming {E : Type 0} (before after : Propagation) (added : List Literal)
    (result : Result Answer E) : Type 0 where
  pub answer : IfOk result
      (λ a. IsAnswer (maps.get before.live) (assumed_by before.assumptions ++ added) a)
  pub stands : IfOk result
      (λ a. Assumes before.assumptions after.assumptions a (assumed_by before.assumptions ++ added))
  pub live : after.live ≡ before.live
  pub live_alone : HoldsLiveAlone after
  pub never_refused : OnOk result (before.has_refused ≡ false)
  pub not_refused : OnOk result (after.has_refused ≡ false)
  pub refused : OnErr result (after.has_refused ≡ true)
  pub stays : OnErr result (after.assumptions ≡ before.assumptions)

-- so it is with the literals of the clause in the slot that the test keeps
abbrev pub AssumingPart : {E : Type 0} → Propagation → Propagation → ℕ → (Literal → Bool) →
    Result Answer E → Type 0
AssumingPart before after slot keeps result =
    (c : Clause) → maps.get before.live slot ≡ Some c →
    Assuming before after (complements (filter keeps c)) result

-- the clause is given, or the slot has one
abbrev pub IsThere : FinMap nat_cmp Clause → ClauseSource → Type 0
IsThere live (Given lits) = ⊤
IsThere live (Stored slot) = IsSome (maps.get live slot)

-- so it is with those of its literals that the test keeps
abbrev pub AssumingFrom : {E : Type 0} → Propagation → Propagation → ClauseSource →
    (Literal → Bool) → Result Answer E → Type 0
AssumingFrom before after (Given lits) keeps result =
    Assuming before after (complements (filter keeps lits.now)) result
AssumingFrom before after (Stored slot) keeps result =
    AssumingPart before after slot keeps result

-- what propagation from these literals says of one
abbrev pub IsValue : Live → List Literal → Literal → Value → Type 0
IsValue live assumed l True = Forced live assumed l
IsValue live assumed l False = Forced live assumed (complement l)
IsValue live assumed l Open = ¬ Forced live assumed l × ¬ Forced live assumed (complement l)

-- the clause in the slot has the literal
pub record HasAt (live : Live) (l : Literal) (slot : ℕ) : Type 0 where
  pub clause : Clause
  pub at : live slot ≡ Some clause
  pub member : IsTrue (has clause l)

-- the literals that are true before the first assumption, where `starts` says how many were true
-- before each
abbrev pub roots_in : List Literal → List Assumption → List ℕ → List Literal
roots_in lits [] starts = lits
roots_in lits (last ∷ rest) [] = []
roots_in lits (last ∷ rest) (start ∷ starts) = roots_in (take start lits) rest starts
