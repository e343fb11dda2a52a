-- Unit propagation as a least set, and the clauses that it shows: RUP and RAT as on DRAT-trim's
-- page, and PR, propagation redundancy, as in DPR proofs.
use Rattle.std.specs.Prelude.{ℕ, Option, ◌≡◌, ◌≢◌, Bool, Some, IsTrue, List, [], ◌++◌, not, filter}
use Rattle.std.specs.Prelude.{◌⊎◌, IsFalse}
use Rattle.cnf_base.specs.Literals.{Clause, Literal, complement, has, complements, without}

-- ---- What follows

-- what is left of a clause where these literals are true: its literals that are not false
abbrev pub open_literals : List Literal → Clause → Clause
open_literals trues c = filter (λ l. not (has trues (complement l))) c

-- The clauses that are alive, each at a number: its place in a list, its slot or its identifier.
abbrev pub Live : Type 0
Live = ℕ → Option Clause

-- The unit rule: where the complements of all other literals of a live clause pass, the last one
-- passes.
pub record IsClosed (live : Live) (passes : Literal → Bool) : Type 0 where
  pub unit : (k : ℕ) (c : Clause) → live k ≡ Some c → (m : Literal) → IsTrue (has c m) →
      ((l : Literal) → IsTrue (has c l) → l ≢ m → IsTrue (passes (complement l))) →
      IsTrue (passes m)

-- l is in the least set that contains the assumed literals and is closed under the unit rule: it
-- is in each such set.
pub record Forced (live : Live) (assumed : List Literal) (l : Literal) : Type 0 where
  pub in_each : (passes : Literal → Bool) → IsClosed live passes →
      ((a : Literal) → IsTrue (has assumed a) → IsTrue (passes a)) → IsTrue (passes l)

-- an empty clause is alive, or a literal and its complement are forced
pub data Clash (live : Live) (assumed : List Literal) : Type 0 where
  by_empty : (k : ℕ) → live k ≡ Some [] → Clash live assumed
  by_both : (l : Literal) → Forced live assumed l → Forced live assumed (complement l) →
      Clash live assumed

-- The clause is the reason of a root-level literal: with nothing assumed that literal is forced,
-- and so are the complements of all its others. It is said of the whole least set, past a clash too
-- (our own profile; DRAT-trim keeps those of these clauses that its propagation took as reasons).
pub record IsRootReason (live : Live) (c : Clause) : Type 0 where
  pub literal : Literal
  pub member : IsTrue (has c literal)
  pub forced : Forced live [] literal
  pub others : (k : Literal) → IsTrue (has c k) → k ≢ literal → Forced live [] (complement k)

-- ---- Redundant clauses

-- reverse unit propagation: the complements of the clause's literals clash
abbrev pub HasRup : Live → Clause → Type 0
HasRup live c = Clash live (complements c)

-- resolution asymmetric tautology: with each clause that holds the pivot's complement, what is
-- left of both has RUP
pub record HasRat (live : Live) (c : Clause) (pivot : Literal) : Type 0 where
  pub holds_pivot : IsTrue (has c pivot)
  pub candidates : (k : ℕ) (d : Clause) → live k ≡ Some d → IsTrue (has d (complement pivot)) →
      HasRup live (c ++ without d (complement pivot))

-- Propagation redundancy: the witness is consistent and meets the clause, and each live clause
-- meets the witness too, or what the witness leaves of it has RUP together with the clause.
pub record HasPr (live : Live) (c : Clause) (witness : List Literal) : Type 0 where
  pub consistent : (l : Literal) → IsTrue (has witness l) → IsFalse (has witness (complement l))
  pub meets : (l : Literal) × IsTrue (has c l) × IsTrue (has witness l)
  pub others : (k : ℕ) (d : Clause) → live k ≡ Some d →
      ((l : Literal) × IsTrue (has d l) × IsTrue (has witness l))
      ⊎ HasRup live (c ++ open_literals witness d)
