-- Trails: the literals that are true, in the order in which they were set.
use Rattle.std.specs.Prelude.{◌≡◌, ℕ, ◌++◌, Bool, IsFalse, ◌&&◌, nat_le, Some, List, map, nat_eq}
use Rattle.std.specs.Prelude.{IsTrue, if◌then◌else◌}
use Rattle.std.specs.Bool.{OnFalse}
use Rattle.std.specs.List.{IsDistinct}
use Rattle.cnf_base.specs.Literals.{Literal, variable, complement, complements, Clause, has}
use Rattle.theory.specs.Propagation.{Live}
use Rattle.theory.specs.Sets.{SameSet, conflicts}
use Rattle.trail.specs.declared.value.Value.{Value}
use Rattle.trail.specs.declared.value.Value.TheVariants.{True, False, Open}

-- the literals that were set, in that order, and the variables for which room was made, of which
-- the order means nothing
pub record TrailState : Type 0 where
  pub lits : List Literal
  pub reserved : List ℕ

-- whether the number is a literal's variable
abbrev pub is_variable : ℕ → Bool
is_variable v = nat_le 1 v && nat_le v 268435455

-- what the literals that were set say of one
abbrev pub value_under : List Literal → Literal → Value
value_under lits l = if has lits l then True else if has lits (complement l) then False else Open

-- no two of the literals are of one variable
abbrev pub HasNoVariableTwice : List Literal → Type 0
HasNoVariableTwice lits = IsDistinct nat_eq (map variable lits)

-- the complements of a clause's literals are true beside what was, unless a literal and its
-- complement would be
pub record MakesFalse (before : List Literal) (c : Clause) (clashes : Bool) (after : List Literal)
    : Type 0 where
  pub conflict : clashes ≡ conflicts (before ++ complements c)
  pub added : OnFalse clashes (SameSet after (before ++ complements c))
  pub quiet : IsFalse (conflicts after)

-- there is room for the clause's variables
abbrev pub HasRoom : List ℕ → Clause → Type 0
HasRoom reserved c = (l : Literal) → IsTrue (has c l) → IsTrue (has reserved (variable l))

-- there is room for the variable of each of these literals
pub record HasRoomForAll (reserved : List ℕ) (live : Live) : Type 0 where
  pub each : (k : ℕ) (c : Clause) → live k ≡ Some c → HasRoom reserved c
