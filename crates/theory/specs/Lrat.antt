-- One step of an LRAT proof: the walk over hints, and the tests of a step in their order.
-- Identifiers, unit hints, groups of hints and deletions by identifier are those of LRAT
-- (Cruz-Filipe, Heule and others, 2017). The rest is our own profile: the order of the tests,
-- identifiers that rise, hints after a conflict that nobody looks at, true literals and literals
-- that are there already, which unnamed candidates pass, that no group is repeated, and refused
-- deletions.
use Rattle.std.specs.Prelude.{◌≡◌, ℕ, zero, suc, ◌<◌, Bool, false, not, ◌&&◌}
use Rattle.std.specs.Prelude.{◌==◌, nat_le, Option, Some, None, List, [], ◌∷◌, ◌++◌}
use Rattle.std.specs.Prelude.{Ok, Err, ℤ, pos, negsuc, nat_abs, map, option_map, is_none}
use Rattle.std.specs.Prelude.{slice_get, length, MatchBool, IsTrue, IsFalse, ⊤}
use Rattle.std.specs.Prelude.{if◌then◌else◌}
use Rattle.std.specs.Bool.{then_some}
use Rattle.std.specs.Option.{option_or}
use Rattle.std.specs.List.{list_all, list_any}
use Rattle.theory.specs.declared.accepted.Accepted.TheVariants.{Rup, Rat, Empty, Deleted}
use Rattle.theory.specs.declared.refusal.Refusal.{Refusal}
use Rattle.theory.specs.declared.refusal.Refusal.TheVariants.{IdOutOfOrder, UnknownId, NotUnit}
use Rattle.theory.specs.declared.refusal.Refusal.TheVariants.{NotCandidate, NamedTwice}
use Rattle.theory.specs.declared.refusal.Refusal.TheVariants.{GroupWithoutConflict, Unnamed}
use Rattle.theory.specs.declared.refusal.Refusal.TheVariants.{NoConflict}
use Rattle.proofs.specs.declared.step_buf.StepKind.{StepKind}
use Rattle.proofs.specs.declared.step_buf.StepKind.TheVariants.{Add, Delete}
use Rattle.proofs.specs.Steps.{Step}
use Rattle.cnf_base.specs.Literals.{Literal, complement, Clause, has, complements, without}
use Rattle.cnf_base.specs.Literals.{same_clause}
use Rattle.theory.specs.Sets.{conflicts}
use Rattle.theory.specs.Propagation.{Live, open_literals}
use Rattle.theory.specs.Answers.{StepAnswer}

-- ---- The chain rule

-- how a walk over hints ends: in a conflict, with these literals true and no hint left, or at a
-- hint under which no clause is alive or whose clause has two different literals left
pub data ChainEnd : Type 0 where
  conflict : ChainEnd
  open_with : List Literal → ChainEnd
  unknown : ℕ → ChainEnd
  not_unit : ℕ → ChainEnd

-- What is left of the hint's clause decides. Nothing is a conflict; with one literal alone,
-- however often it stands there, the walk goes on; two different ones are refused.
abbrev pub look_at : ℕ → Option Clause → (Literal → ChainEnd) → ChainEnd
look_at k None go_on = unknown k
look_at k (Some []) go_on = conflict
look_at k (Some (l ∷ ls)) go_on = if list_all (λ m. m == l) ls then go_on l else not_unit k

-- the walk over hints, from true literals: each hint's clause gives one more, up to a conflict
abbrev pub chain : Live → List Literal → List ℕ → ChainEnd
chain live ls [] = if conflicts ls then conflict else open_with ls
chain live ls (k ∷ hints) =
    if conflicts ls then conflict
    else look_at k (option_map (open_literals ls) (live k)) (λ l. chain live (l ∷ ls) hints)

-- ---- A step

-- the hints that follow `-candidate`: for a clause that holds the complement of the pivot
pub record Group : Type 0 where
  pub candidate : ℕ
  pub hints : List ℕ

-- an addition, with its literals in the order in which they were written, or a deletion
pub data LratStep : Type 0 where
  add : (id : ℕ) → (clause : List Literal) → (units : List ℕ) → (groups : List Group) → LratStep
  delete : (ids : List ℕ) → LratStep

-- a line's unit hints: those before the first negative one
abbrev pub units_of : List ℤ → List ℕ
units_of [] = []
units_of (pos k ∷ hints) = k ∷ units_of hints
units_of (negsuc k ∷ hints) = []

-- a line's groups: one from each negative hint on
abbrev pub groups_of : List ℤ → List Group
groups_of [] = []
groups_of (pos k ∷ hints) = groups_of hints
groups_of (negsuc k ∷ hints) =
    record { candidate = suc k; hints = units_of hints } ∷ groups_of hints

-- the step of the rule that a step as it was written stands for; a deletion lists its identifiers
-- as hints
abbrev pub step_of : StepKind → ℕ → List Literal → List ℤ → LratStep
step_of Add id c hints = add id c (units_of hints) (groups_of hints)
step_of Delete id c hints = delete (map nat_abs hints)

-- the same of a whole step, as it was read
abbrev pub lrat_step : Step → LratStep
lrat_step step = step_of step.kind step.id step.lits step.hints

-- the clauses that are alive, each at its identifier, and the greatest identifier so far
pub record LratState : Type 0 where
  pub live : Live
  -- the greatest of the number of formula clauses and all identifiers added
  pub top : ℕ

-- the formula's clauses have the identifiers 1, 2, ..
abbrev pub numbered : List Clause → Live
numbered formula zero = None
numbered formula (suc k) = slice_get formula k

-- what is alive before the first step
abbrev pub lrat_start : List Clause → LratState
lrat_start formula = record { live = numbered formula; top = length formula }

-- the literals that are true where those of the list are, and what is left of a candidate is false
abbrev pub with_candidate : List Literal → Clause → Literal → List Literal
with_candidate ls c pivot = ls ++ complements (without c (complement pivot))

-- why a chain that should end in a conflict is refused
abbrev pub chain_refusal : Refusal → ChainEnd → Option Refusal
chain_refusal if_open conflict = None
chain_refusal if_open (open_with ls) = Some if_open
chain_refusal if_open (unknown k) = Some (UnknownId k)
chain_refusal if_open (not_unit k) = Some (NotUnit k)

-- why a group is refused, by the first test that fails; `earlier` are the candidates before it
abbrev pub group_refusal : Live → List Literal → Literal → List ℕ → Group → Option Clause →
    Option Refusal
group_refusal live ls pivot earlier group None = Some (UnknownId group.candidate)
group_refusal live ls pivot earlier group (Some c) =
    option_or (then_some (not (has c (complement pivot))) (NotCandidate group.candidate))
    (option_or (then_some (has earlier group.candidate) (NamedTwice group.candidate))
    (chain_refusal (GroupWithoutConflict group.candidate)
    (chain live (with_candidate ls c pivot) group.hints)))

-- why the groups are refused: the first that is
abbrev pub groups_refusal : Live → List Literal → Literal → List ℕ → List Group → Option Refusal
groups_refusal live ls pivot earlier [] = None
groups_refusal live ls pivot earlier (group ∷ groups) =
    option_or (group_refusal live ls pivot earlier group (live group.candidate))
    (groups_refusal live ls pivot (group.candidate ∷ earlier) groups)

-- a candidate without a group passes only where it gives a conflict at once
abbrev pub is_unsettled : List Literal → Literal → Option Clause → Bool
is_unsettled ls pivot None = false
is_unsettled ls pivot (Some c) =
    has c (complement pivot) && not (conflicts (with_candidate ls c pivot))

-- no group names the candidate, and it doesn't pass without one
abbrev pub is_left_out : Live → List Literal → Literal → List Group → ℕ → Bool
is_left_out live ls pivot groups k =
    not (list_any (λ group. group.candidate == k) groups) && is_unsettled ls pivot (live k)

-- what an addition may be answered after its groups: RAT where no candidate is left out, or the
-- lowest that is
abbrev pub AnswersGroups : Live → List Literal → Literal → List Group → Option Refusal →
    StepAnswer → Type 0
AnswersGroups live ls pivot groups (Some r) answer = answer ≡ Err r
AnswersGroups live ls pivot groups None (Ok Rat) =
    (k : ℕ) → IsFalse (is_left_out live ls pivot groups k)
AnswersGroups live ls pivot groups None (Err (Unnamed k)) =
    IsTrue (is_left_out live ls pivot groups k)
    × ((j : ℕ) → j < k → IsFalse (is_left_out live ls pivot groups j))
AnswersGroups live ls pivot groups None _ = ⊥

-- what an addition may be answered after its unit hints; the pivot is the first literal written
abbrev pub AnswersChain : Live → List Literal → List Group → ChainEnd → StepAnswer → Type 0
AnswersChain live [] groups conflict answer = answer ≡ Ok Empty
AnswersChain live (l ∷ c) groups conflict answer = answer ≡ Ok Rup
AnswersChain live c groups (unknown k) answer = answer ≡ Err (UnknownId k)
AnswersChain live c groups (not_unit k) answer = answer ≡ Err (NotUnit k)
AnswersChain live [] groups (open_with ls) answer = answer ≡ Err NoConflict
AnswersChain live (pivot ∷ c) groups (open_with ls) answer =
    AnswersGroups live ls pivot groups (groups_refusal live ls pivot [] groups) answer

-- ---- Deletions, and what is alive after a step

-- with one more clause at this identifier
abbrev pub with_clause : Live → ℕ → Clause → Live
with_clause live id c k = if k == id then Some c else live k

-- without the clause at this identifier
abbrev pub without_id : Live → ℕ → Live
without_id live id k = if k == id then None else live k

-- without the clauses at these identifiers
abbrev pub without_ids : Live → List ℕ → Live
without_ids live [] = live
without_ids live (id ∷ ids) = without_ids (without_id live id) ids

-- why a deletion is refused: the first identifier that is not alive at its turn
abbrev pub deletion_refusal : Live → List ℕ → Option Refusal
deletion_refusal live [] = None
deletion_refusal live (id ∷ ids) =
    option_or (then_some (is_none (live id)) (UnknownId id))
    (deletion_refusal (without_id live id) ids)

-- the answer to a deletion
abbrev pub answer_of : Option Refusal → StepAnswer
answer_of None = Ok Deleted
answer_of (Some r) = Err r

-- What a step may be answered: an identifier that is not above all earlier ones is refused first.
abbrev pub AnswersLrat : LratState → LratStep → StepAnswer → Type 0
AnswersLrat state (add id c units groups) answer =
    MatchBool (nat_le id state.top) (answer ≡ Err IdOutOfOrder)
    (AnswersChain state.live c groups (chain state.live (complements c) units) answer)
AnswersLrat state (delete ids) answer = answer ≡ answer_of (deletion_refusal state.live ids)

-- what is alive after an accepted step
abbrev pub after_lrat : LratState → LratStep → LratState
after_lrat state (add id c units groups) = record { live = with_clause state.live id c; top = id }
after_lrat state (delete ids) = record state { live = without_ids state.live ids }

-- no clause is alive in both, or the same set is
abbrev pub SameAt : Option Clause → Option Clause → Type 0
SameAt None None = ⊤
SameAt (Some c) (Some d) = IsTrue (same_clause c d)
SameAt None (Some d) = ⊥
SameAt (Some c) None = ⊥

-- the same identifiers are alive, with the same sets
pub record SameClauses (first second : Live) : Type 0 where
  pub at : (k : ℕ) → SameAt (first k) (second k)
