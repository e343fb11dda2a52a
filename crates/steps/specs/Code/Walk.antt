-- How a walk over hints ends in code.
use Rattle.std.specs.Prelude.{◌≡◌, List, ⊤, Option, Some, None}
use Rattle.cnf_base.specs.Literals.{Literal, has}
use Rattle.theory.specs.Lrat.{ChainEnd, conflict, open_with, unknown, not_unit}
use Rattle.theory.specs.declared.refusal.Refusal.TheVariants.{UnknownId, NotUnit}
use Rattle.theory.specs.declared.refusal.Refusal.{Refusal}
use Rattle.steps.specs.declared.lrat.walk.WalkEnd.TheVariants.{Conflict, Open}
use Rattle.steps.specs.declared.lrat.walk.WalkEnd.TheVariants.{UnknownId as EndUnknown}
use Rattle.steps.specs.declared.lrat.walk.WalkEnd.TheVariants.{NotUnit as EndNotUnit}
use Rattle.steps.specs.declared.lrat.walk.WalkEnd.{WalkEnd}

-- the walk's end; where it is open, the list has the literals that are true
abbrev pub IsEnd : List Literal → WalkEnd → ChainEnd → Type 0
IsEnd trues Conflict conflict = ⊤
IsEnd trues Open (open_with ls) = (l : Literal) → has trues l ≡ has ls l
IsEnd trues (EndUnknown j) (unknown k) = j ≡ k
IsEnd trues (EndNotUnit j) (not_unit k) = j ≡ k
IsEnd trues _ _ = ⊥

-- why a walk that should end in a conflict is refused
abbrev pub refusal_at : Refusal → WalkEnd → Option Refusal
refusal_at if_open Conflict = None
refusal_at if_open Open = Some if_open
refusal_at if_open (EndUnknown k) = Some (UnknownId k)
refusal_at if_open (EndNotUnit k) = Some (NotUnit k)
