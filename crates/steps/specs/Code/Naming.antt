-- How a session's clauses under numbers fit those under the names that were given.
use Rattle.std.specs.FinMap as maps
use Rattle.std.specs.FinMap.{FinMap}
use Rattle.std.specs.Ordering.{nat_cmp}
use Rattle.std.specs.List.{list_any}
use Rattle.std.specs.Prelude.{◌≡◌, ℕ, ◌+◌, List, [], Some, Err, map, slice_get}
use Rattle.std.specs.Prelude.{slice_index_or, IsTrue, IsFalse, ⊤}
use Rattle.cnf_base.specs.Literals.{Literal, Clause, has, variable, same_clause}
use Rattle.numbering.specs.Names.{number_in, name_in, with_names}
use Rattle.proofs.specs.Steps.{Step}
use Rattle.proofs.specs.declared.step_buf.StepKind.{StepKind}
use Rattle.proofs.specs.declared.step_buf.StepKind.TheVariants.{Add, Delete}
use Rattle.theory.specs.Answers.{StepAnswer}
use Rattle.theory.specs.Propagation.{Live}
use Rattle.theory.specs.Renaming.{renamed}
use Rattle.theory.specs.Rules.{State, by_ids, by_copies}
use Rattle.theory.specs.declared.refusal.Refusal.TheVariants.{NeitherRupNorRat}
use Rattle.steps.specs.Session.{Held, state_of}

-- a step with these literals in the place of its own
abbrev pub with_lits : List Literal → Step → Step
with_lits lits step =
    record { kind = step.kind; id = step.id; lits = lits; hints = step.hints }

-- an answer that names this step's first literal as the pivot
abbrev pub answer_with : List Literal → StepAnswer → StepAnswer
answer_with lits (Err (NeitherRupNorRat pivot)) =
    Err (NeitherRupNorRat (slice_index_or lits 0 pivot))
answer_with lits answer = answer

-- the variables that were met when a step was put under numbers
abbrev pub names_after : StepKind → List ℕ → List Literal → List ℕ
names_after Add names lits = with_names names lits
names_after Delete names lits = names

-- a map whose values are changed
unfoldable pub mapped_values : (Clause → Clause) → FinMap nat_cmp Clause → FinMap nat_cmp Clause
mapped_values f m = maps.from_sorted (map (λ e. (e.0, f e.1)) (maps.entries m))

-- what a judge holds, under the names that were given, where so many literals are kept beside it
abbrev pub under_names : List ℕ → ℕ → Held → Held
under_names names beside held = record {
  rule = held.rule;
  live = mapped_values (map (renamed (name_in names))) held.live;
  top = held.top;
  stored = held.stored + beside;
  has_lost_literal = held.has_lost_literal;
}

-- the live clauses under the names that were given
abbrev pub named_state : List ℕ → Held → State
named_state names held = state_of (under_names names 0 held)

-- each literal of the clause is one of these
abbrev pub AreAmong : (Literal → Type 0) → List Literal → Type 0
AreAmong among c = (l : Literal) → IsTrue (has c l) → among l

-- that of each of these clauses
abbrev pub LiveAmong : (Literal → Type 0) → Live → Type 0
LiveAmong among live = (k : ℕ) (c : Clause) → live k ≡ Some c → AreAmong among c

-- that of each live clause
abbrev pub AreAllAmong : (Literal → Type 0) → State → Type 0
AreAllAmong among (by_ids s) = LiveAmong among s.live
AreAllAmong among (by_copies rules live) = LiveAmong among (slice_get live)

-- a literal whose variable is the number of one that was met
abbrev pub IsGiven : List ℕ → Literal → Type 0
IsGiven names l = (v : ℕ) × IsTrue (has names v) × (number_in names v ≡ variable l)

-- between calls: all live clauses have numbers that were given, and no literals are kept beside
pub record IsNamed (names : List ℕ) (beside : List Literal) (held : Held) : Type 0 where
  pub given : AreAllAmong (IsGiven names) (state_of held)
  pub none_beside : beside ≡ []

-- in DRAT: the clause isn't alive
abbrev pub IsAbsent : State → List Literal → Type 0
IsAbsent (by_ids s) lits = ⊤
IsAbsent (by_copies rules live) lits = IsFalse (list_any (same_clause lits) live)
