-- Where watched literals are false (our own profile).
use Rattle.std.specs.Prelude.{[], ◌∷◌, ℕ, Some, ◌≡◌, List, IsTrue, ⊤, take}
use Rattle.cnf_base.specs.Literals.{Literal, Clause, has, complement}
use Rattle.theory.specs.Propagation.{Live}
use Rattle.propagation.specs.Assumptions.{Assumption}
use Rattle.propagation.specs.declared.answer.Answer.TheVariants.{Quiet}
use Rattle.watch_lists.specs.Watched.{watches}

-- all its literals are in the other list
abbrev pub IsPart : List Literal → List Literal → Type 0
IsPart part whole = (l : Literal) → IsTrue (has part l) → IsTrue (has whole l)

-- if the clause watches the literal, then a literal of it is true
abbrev pub IsMet : Clause → Literal → List Literal → Type 0
IsMet c l trues = IsTrue (watches c l) → (m : Literal) × IsTrue (has c m) × IsTrue (has trues m)

-- the clause isn't empty, and if it is a unit, its literal is true
abbrev pub HasUnit : Clause → List Literal → Type 0
HasUnit [] trues = ⊥
HasUnit (a ∷ []) trues = IsTrue (has trues a)
HasUnit (a ∷ b ∷ c) trues = ⊤

-- where a watched literal is false by the first list, a literal of the clause is true by the second
pub record IsWatched (live : Live) (done trues : List Literal) : Type 0 where
  pub each : (s : ℕ) (c : Clause) → live s ≡ Some c →
      (l : Literal) → IsTrue (has done (complement l)) → IsMet c l trues

-- so it is after each assumption that was quiet, where `starts` says how many literals were true
-- before it
abbrev pub AreWatched : Live → List Literal → List Assumption → List ℕ → Type 0
AreWatched live lits [] starts = ⊤
AreWatched live lits (last ∷ rest) [] = ⊤
AreWatched live lits (last ∷ rest) (start ∷ starts) =
    (last.answer ≡ Quiet → IsWatched live lits lits) × AreWatched live (take start lits) rest starts
