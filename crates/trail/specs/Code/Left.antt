-- How what is left of a clause is counted, and where nothing new follows from it.
use Rattle.std.specs.Prelude.{◌==◌, if◌then◌else◌, ◌≡◌, ℕ, List, [], ◌∷◌, length, IsTrue, ⊤}
use Rattle.cnf_base.specs.Literals.{Literal, has}
use Rattle.trail.specs.declared.left.Left.TheVariants.{Nothing, One, More}
use Rattle.trail.specs.declared.left.Left.{Left}

-- with one more literal
abbrev pub with_one : Left → Literal → Left
with_one Nothing l = One l
with_one (One m) l = if l == m then One m else More
with_one More l = More

-- how many literals there are, and which one where it is alone
pub record IsCount (ls : List Literal) (count : ℕ) (last : Literal) : Type 0 where
  pub count_is : count ≡ length ls
  pub alone : count ≡ 1 → ls ≡ last ∷ []

-- nothing new follows from a clause of which this is left
abbrev pub IsSettled : List Literal → Left → Type 0
IsSettled trues Nothing = ⊥
IsSettled trues (One l) = IsTrue (has trues l)
IsSettled trues More = ⊤
