-- Parts of the answer to a step, as the code finds them.
use Rattle.std.specs.Prelude.{ℕ, List, map, ℤ, Bool, not, ◌&&◌, ◌++◌, ◌<◌, Option, Some, None}
use Rattle.std.specs.Prelude.{IsTrue, IsFalse}
use Rattle.cnf_base.specs.Literals.{Literal, Clause, has, complements, without}
use Rattle.theory.specs.Lrat.{groups_of, chain, is_unsettled}
use Rattle.theory.specs.Propagation.{Live}
use Rattle.theory.specs.Sets.{conflicts}
use Rattle.steps.specs.Code.Walk.{IsEnd}
use Rattle.steps.specs.declared.lrat.walk.WalkEnd.{WalkEnd}

-- the candidates that groups name
abbrev pub named_in : List ℤ → List ℕ
named_in hints = map (λ group. group.candidate) (groups_of hints)

-- the clause holds the pivot's complement, and what is left of it gives no conflict at once
abbrev pub needs_group_at : List Literal → Literal → Clause → Bool
needs_group_at ls opposite c =
    has c opposite && not (conflicts (ls ++ complements (without c opposite)))

-- the end of the walk over a group's hints
pub record IsGroupEnd (live : Live) (ls : List Literal) (c : Clause) (opposite : Literal)
    (hints : List ℕ) (end : WalkEnd) : Type 0 where
  pub trues : List Literal
  pub is : IsEnd trues end (chain live (ls ++ complements (without c opposite)) hints)

-- a candidate without a group, where these are named, that gives no conflict at once
abbrev pub is_unnamed : Live → List Literal → Literal → List ℕ → ℕ → Bool
is_unnamed live ls pivot named k = not (has named k) && is_unsettled ls pivot (live k)

-- no candidate is left out, or the lowest that is
abbrev pub IsFirstLeftOut : Live → List Literal → Literal → List ℕ → Option ℕ → Type 0
IsFirstLeftOut live ls pivot named None = (k : ℕ) → IsFalse (is_unnamed live ls pivot named k)
IsFirstLeftOut live ls pivot named (Some k) =
    IsTrue (is_unnamed live ls pivot named k)
    × ((j : ℕ) → j < k → IsFalse (is_unnamed live ls pivot named j))
