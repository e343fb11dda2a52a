-- The literals that are true with nothing assumed, each with its reason (as solvers keep those of
-- level 0; our own profile).
use Rattle.std.specs.FinMap as maps
use Rattle.std.specs.FinMap.{FinMap}
use Rattle.std.specs.Ordering.{nat_cmp}
use Rattle.std.specs.Prelude.{◌≡◌, ◌≢◌, ℕ, Bool, Option, Some, List, IsTrue, IsSome, ◌≤◌, [], take}
use Rattle.std.specs.Prelude.{length, true, false, ◌∷◌, ⊤, ◌<◌, slice_index, IsFalse, if◌then◌else◌}
use Rattle.cnf_base.specs.Literals.{Literal, Clause, has, complement}
use Rattle.tables.specs.ByKey.{at}
use Rattle.theory.specs.Propagation.{Live}
use Rattle.trail.specs.declared.left.Left.TheVariants.{Nothing, One, More}
use Rattle.trail.specs.declared.left.Left.{Left}
use Rattle.propagation.specs.Assumptions.{HasAt, Assumption}
use Rattle.root_literals.specs.History.{IsHistory, sure_of, visits}
use Rattle.root_literals.specs.Order.{each_in_order}
use Rattle.root_literals.specs.Uses.{AreCounted}
use Rattle.root_literals.specs.Watched.{HasUnit, IsWatched}
use Rattle.root_literals.specs.declared.kept.Kept.TheVariants.{WithoutUnits, WithUnits, All, Conflict}
use Rattle.root_literals.specs.declared.kept.Kept.{Kept}
use Rattle.root_literals.specs.declared.roots.Roots.{Roots}

-- ---- Reasons

-- a literal of the list passes where the complements of the other literals of its reason do
abbrev pub FollowsReasons : Live → (Literal → Option ℕ) → List Literal → (Literal → Bool) → Type 0
FollowsReasons live reason_of lits passes =
    (l : Literal) (s : ℕ) (c : Clause) → IsTrue (has lits l) → reason_of l ≡ Some s →
    live s ≡ Some c →
    ((k : Literal) → IsTrue (has c k) → k ≢ l → IsTrue (passes (complement k))) → IsTrue (passes l)

-- the literals follow from their reasons alone, and the first of them do without the others; each
-- reason has its literal
pub record AreReasoned (live : Live) (reason_of : Literal → Option ℕ) (lits : List Literal)
    : Type 0 where
  pub has_it : (l : Literal) (s : ℕ) → IsTrue (has lits l) → reason_of l ≡ Some s → HasAt live l s
  pub in_each : (n : ℕ) (passes : Literal → Bool) →
      FollowsReasons live reason_of (take n lits) passes →
      (l : Literal) → IsTrue (has (take n lits) l) → IsTrue (passes l)

-- the clause in the slot makes the literal true, of those before it alone
pub record IsReasonAt (live : Live) (slot : ℕ) (lits : List Literal) (l : Literal) : Type 0 where
  pub clause : Clause
  pub at : live slot ≡ Some clause
  pub member : IsTrue (has clause l)
  pub place : ℕ
  pub inside : place < length lits
  pub stands : slice_index lits place ≡ l
  pub others : (k : Literal) → IsTrue (has clause k) → k ≢ l →
      IsTrue (has (take place lits) (complement k))

-- there is room for the reasons of the clause's literals
abbrev pub HasReasons : Clause → (Literal → Option ℕ) → Type 0
HasReasons c reason_of = (l : Literal) → IsTrue (has c l) → IsSome (reason_of l)

pub record AreNoted (live : Live) (reason_of : Literal → Option ℕ) : Type 0 where
  pub each : (s : ℕ) (c : Clause) → live s ≡ Some c → HasReasons c reason_of

-- ---- What is known

-- all literals of the clause in the slot are false
pub record IsFalseAt (live : Live) (slot : ℕ) (trues : List Literal) : Type 0 where
  pub clause : Clause
  pub at : live slot ≡ Some clause
  pub falses : (k : Literal) → IsTrue (has clause k) → IsTrue (has trues (complement k))

-- no clause is empty, and the literal of each unit clause is true
abbrev pub HaveUnits : Live → List Literal → Type 0
HaveUnits live trues = (s : ℕ) (c : Clause) → live s ≡ Some c → HasUnit c trues

-- what is said of the literals that are kept is so
abbrev pub IsKnown : FinMap nat_cmp Clause → Kept → List Literal → Type 0
IsKnown live WithoutUnits roots = ⊤
IsKnown live WithUnits roots = HaveUnits (maps.get live) roots
IsKnown live All roots = IsWatched (maps.get live) roots roots × HaveUnits (maps.get live) roots
IsKnown live (Conflict slot) roots = IsFalseAt (maps.get (each_in_order live)) slot roots

-- whether all that follows with nothing assumed is kept, or a conflict
abbrev pub is_up_to_date : Kept → Bool
is_up_to_date WithoutUnits = false
is_up_to_date WithUnits = false
is_up_to_date All = true
is_up_to_date (Conflict slot) = true

-- whether a conflict is kept
abbrev pub has_conflict : Kept → Bool
has_conflict WithoutUnits = false
has_conflict WithUnits = false
has_conflict All = false
has_conflict (Conflict slot) = true

-- whether literals of unit clauses may be missing
abbrev pub lacks_units : Kept → Bool
lacks_units WithoutUnits = true
lacks_units WithUnits = false
lacks_units All = false
lacks_units (Conflict slot) = false

-- the clauses that those literals are propagated to which were visited: after a cut none that are
-- doubtful
abbrev pub seen_of : Roots → Live → Live
seen_of roots live =
    sure_of (if lacks_units roots.kept then roots.history.doubts.items else []) live

-- the kept literals follow from their reasons, which are counted, what is said of them is so, and
-- those that were visited are propagated, unless a conflict was found
pub record IsKept (live : FinMap nat_cmp Clause) (roots : Roots) (lits : List Literal)
    : Type 0 where
  pub noted : AreNoted (maps.get (each_in_order live)) (at roots.reasons)
  pub reasoned : AreReasoned (maps.get (each_in_order live)) (at roots.reasons) lits
  pub known : IsKnown live roots.kept lits
  pub history : IsHistory (sure_of roots.history.doubts.items (maps.get live)) roots.history lits
  pub visited : has_conflict roots.kept ≡ false →
      IsWatched (seen_of roots (maps.get live)) (take (visits roots.history) lits) lits
  pub counted : AreCounted (maps.get live) (at roots.reasons) lits roots.uses

-- where an assumption stands, what follows without is known
abbrev pub IsStanding : Kept → List Assumption → Type 0
IsStanding kept [] = ⊤
IsStanding kept (last ∷ rest) = is_up_to_date kept ≡ true

-- ---- A clause that is removed

-- no clause has the literal
abbrev pub IsAbsent : Live → Literal → Type 0
IsAbsent live l = (s : ℕ) (c : Clause) → live s ≡ Some c → IsFalse (has c l)

-- no literal behind the place has a reason with the complement of this one
abbrev pub IsUnneeded : Live → (Literal → Option ℕ) → List Literal → ℕ → Literal → Type 0
IsUnneeded live reason_of lits place l =
    (q s : ℕ) (c : Clause) → place < q → q < length lits →
    reason_of (slice_index lits q) ≡ Some s → live s ≡ Some c → IsFalse (has c (complement l))

-- ---- A clause that is added

-- a literal that is not false was brought to a place, if there was one from it on
pub record IsBrought (trues : List Literal) (c d : Clause) (place : ℕ) (was_found : Bool)
    : Type 0 where
  pub alike : (l : Literal) → has d l ≡ has c l
  pub before : (k : ℕ) → k < place → slice_index d k ≡ slice_index c k
  pub found : was_found ≡ true → (place < length d)
      × IsFalse (has trues (complement (slice_index d place)))
  pub none : was_found ≡ false → (k : ℕ) → place ≤ k → k < length d →
      IsTrue (has trues (complement (slice_index d k)))

-- what is left of a clause stands first
abbrev pub IsArranged : List Literal → Clause → Left → Type 0
IsArranged trues c Nothing = (k : Literal) → IsTrue (has c k) → IsTrue (has trues (complement k))
IsArranged trues c (One l) =
    IsTrue (has c l) × (slice_index c 0 ≡ l) × IsFalse (has trues (complement l))
    × ((k : Literal) → IsTrue (has c k) → k ≢ l → IsTrue (has trues (complement k)))
IsArranged trues c More =
    (2 ≤ length c) × IsFalse (has trues (complement (slice_index c 0)))
    × IsFalse (has trues (complement (slice_index c 1)))
