-- One step of a DRAT proof, over the list of the live clauses. Additions by RUP, or by RAT on the
-- first literal written, and deletions are those of DRAT, as DRAT-trim's page has it. DRAT-trim
-- ignores the deletion of a clause that is not alive too. Our own profile: RUP is asked first, a
-- deletion of a unit clause is done as written, and strict rules refuse one of a clause that is not
-- alive. Where the rules keep units, the deletion of a clause that is the reason of a root-level
-- literal is ignored, as DRAT-trim ignores most of these. Additions that list a witness after their
-- clause are those of DPR proofs; that they are tried by RUP and PR alone is our own.
use Rattle.std.specs.Prelude.{◌≡◌, ℕ, Bool, true, false, ◌⊎◌, List, [], ◌∷◌, Ok}
use Rattle.std.specs.Prelude.{Err, count_by, slice_get, IsTrue, IsFalse, if◌then◌else◌}
use Rattle.std.specs.List.{list_any}
use Rattle.theory.specs.declared.accepted.Accepted.{Accepted}
use Rattle.theory.specs.declared.accepted.Accepted.TheVariants.{Rup, Rat, Pr, Empty, Deleted}
use Rattle.theory.specs.declared.accepted.Accepted.TheVariants.{Ignored}
use Rattle.theory.specs.declared.refusal.Refusal.TheVariants.{NotRup, NeitherRupNorRat, NotAlive}
use Rattle.theory.specs.declared.refusal.Refusal.TheVariants.{InconsistentSet, NeitherRupNorPr}
use Rattle.cnf_base.specs.Literals.{Literal, Clause, same_clause}
use Rattle.theory.specs.Propagation.{Live, HasRup, HasRat, HasPr, IsRootReason}
use Rattle.theory.specs.Answers.{StepAnswer}
use Rattle.theory.specs.declared.drat_rules.DratRules.{DratRules}
use Rattle.theory.specs.Sets.{conflicts}
use Rattle.proofs.specs.Steps.{Step, clause_part, witness_part}
use Rattle.proofs.specs.declared.step_buf.StepKind.{StepKind}
use Rattle.proofs.specs.declared.step_buf.StepKind.TheVariants.{Add, Delete}

-- a step, with its literals in the order in which they were written: an addition of a clause with
-- the witness that it lists, or a deletion
pub data DratStep : Type 0 where
  add : List Literal → List Literal → DratStep
  delete : List Literal → DratStep

-- an addition lists a witness only where the rules have PR
abbrev pub addition_of : Bool → List Literal → DratStep
addition_of true lits = add (clause_part lits) (witness_part lits)
addition_of false lits = add lits []

-- what a step of a proof says in DRAT, where identifiers and hints mean nothing; a deletion is
-- never divided
abbrev pub drat_step_of : DratRules → StepKind → List ℕ → DratStep
drat_step_of rules Add lits = addition_of rules.pr lits
drat_step_of rules Delete lits = delete lits

-- the same of a whole step, as it was read
abbrev pub drat_step : DratRules → Step → DratStep
drat_step rules s = drat_step_of rules s.kind s.lits

-- What an addition may be answered. The pivot is the first literal written.
abbrev pub AnswersAdd : Live → List Literal → StepAnswer → Type 0
AnswersAdd live [] (Ok Empty) = HasRup live []
AnswersAdd live [] (Err NotRup) = ¬ HasRup live []
AnswersAdd live (pivot ∷ c) (Ok Rup) = HasRup live (pivot ∷ c)
AnswersAdd live (pivot ∷ c) (Ok Rat) = ¬ HasRup live (pivot ∷ c) × HasRat live (pivot ∷ c) pivot
AnswersAdd live (pivot ∷ c) (Err (NeitherRupNorRat l)) =
    (l ≡ pivot) × ¬ HasRup live (pivot ∷ c) × ¬ HasRat live (pivot ∷ c) pivot
AnswersAdd live c _ = ⊥

-- What an addition may be answered that lists a witness. One with a literal and its complement is
-- refused before all else, and RAT is not asked.
abbrev pub AnswersWithWitness : Live → List Literal → List Literal → StepAnswer → Type 0
AnswersWithWitness live c witness (Err InconsistentSet) = IsTrue (conflicts witness)
AnswersWithWitness live c witness (Ok Rup) = IsFalse (conflicts witness) × HasRup live c
AnswersWithWitness live c witness (Ok Pr) =
    IsFalse (conflicts witness) × ¬ HasRup live c × HasPr live c witness
AnswersWithWitness live c witness (Err NeitherRupNorPr) =
    IsFalse (conflicts witness) × ¬ HasRup live c × ¬ HasPr live c witness
AnswersWithWitness live c witness _ = ⊥

-- What an addition may be answered, whether it lists a witness or not.
abbrev pub AnswersListed : Live → List Literal → List Literal → StepAnswer → Type 0
AnswersListed live c [] answer = AnswersAdd live c answer
AnswersListed live c (l ∷ witness) answer = AnswersWithWitness live c (l ∷ witness) answer

-- the rules keep units, and the clause is the reason of a root-level literal
abbrev pub IsKeptUnit : DratRules → List Clause → Clause → Type 0
IsKeptUnit rules live c = IsTrue rules.keep_units × IsRootReason (slice_get live) c

-- What a deletion may be answered. One of a live clause is ignored where that is a kept unit; one
-- of a clause that is not alive is ignored too, or refused where the rules are strict.
abbrev pub AnswersDelete : DratRules → List Clause → List Literal → StepAnswer → Type 0
AnswersDelete rules live c (Ok Deleted) =
    IsTrue (list_any (same_clause c) live) × ¬ IsKeptUnit rules live c
AnswersDelete rules live c (Ok Ignored) =
    (IsTrue (list_any (same_clause c) live) × IsKeptUnit rules live c)
    ⊎ (IsFalse (list_any (same_clause c) live) × IsFalse rules.strict)
AnswersDelete rules live c (Err NotAlive) =
    IsFalse (list_any (same_clause c) live) × IsTrue rules.strict
AnswersDelete rules live c _ = ⊥

-- what a step may be answered, over the live clauses before it
abbrev pub AnswersDrat : DratRules → List Clause → DratStep → StepAnswer → Type 0
AnswersDrat rules live (add c witness) answer = AnswersListed (slice_get live) c witness answer
AnswersDrat rules live (delete c) answer = AnswersDelete rules live c answer

-- without one copy of the clause, if there is one
abbrev pub take_off : Clause → List Clause → List Clause
take_off c [] = []
take_off c (d ∷ live) = if same_clause c d then live else d ∷ take_off c live

-- What is alive after a step that was accepted with this word. An ignored deletion changes nothing.
abbrev pub after_drat : List Clause → DratStep → Accepted → List Clause
after_drat live (add c witness) word = c ∷ live
after_drat live (delete c) Ignored = live
after_drat live (delete c) word = take_off c live

-- how many copies of a clause are alive
abbrev pub copies_of : Clause → List Clause → ℕ
copies_of c live = count_by (same_clause c) live

-- The live clauses are a multiset: how many copies of each clause are alive is all that counts.
pub record SameLive (first second : List Clause) : Type 0 where
  pub copies : (c : Clause) → copies_of c first ≡ copies_of c second
