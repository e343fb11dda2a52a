-- The steps of a proof.
use Rattle.std.specs.Prelude.{ℕ, ◌&&◌, ◌==◌, not, nat_le, ℤ, pos, negsuc, Bool, false, List, []}
use Rattle.std.specs.Prelude.{◌∷◌, ◌++◌, take_while, drop, length, nat_abs}
use Rattle.cnf_base.specs.Literals.{Literal}
use Rattle.proofs.specs.declared.step_buf.StepKind.{StepKind}
use Rattle.proofs.specs.declared.step_buf.StepKind.TheVariants.{Add, Delete}

-- A step as it was written: its literals in order, its identifier (0 in DRAT), and its hints. The
-- identifiers that an LRAT deletion lists stand in the hints.
pub record Step : Type 0 where
  pub kind : StepKind
  pub id : ℕ
  pub lits : List Literal
  pub hints : List ℤ

-- the limit of identifiers (our own profile)
abbrev pub is_small : ℕ → Bool
is_small k = nat_le k 9223372036854775807

-- a hint is a signed identifier other than 0, and a positive one in a deletion
abbrev pub is_hint : StepKind → ℤ → Bool
is_hint Add h = nat_le 1 (nat_abs h) && is_small (nat_abs h)
is_hint Delete (pos k) = nat_le 1 k && is_small k
is_hint Delete (negsuc k) = false

-- The clause and the set that an addition lists, as in PR proofs (DPR): the clause ends before its
-- first literal stands a second time, and the set begins there. Where it does not, all is the
-- clause, and the set is empty.
abbrev pub clause_part : List Literal → List Literal
clause_part [] = []
clause_part (first ∷ rest) = first ∷ take_while (λ l. not (l == first)) rest

-- the set that an addition lists
abbrev pub witness_part : List Literal → List Literal
witness_part lits = drop (length (clause_part lits)) lits

-- an addition and a deletion without literals and hints, and a step with one more of each
abbrev pub named : ℕ → Step
named id = record { kind = Add; id = id; lits = []; hints = [] }

-- a deletion in place of the addition that was begun
abbrev pub deleting : Step → Step
deleting s = record { kind = Delete; id = s.id; lits = []; hints = [] }

-- a step with one more literal
abbrev pub with_literal : Step → Literal → Step
with_literal s l = record { kind = s.kind; id = s.id; lits = s.lits ++ l ∷ []; hints = s.hints }

-- a step with one more hint
abbrev pub with_hint : Step → ℤ → Step
with_hint s h = record { kind = s.kind; id = s.id; lits = s.lits; hints = s.hints ++ h ∷ [] }
