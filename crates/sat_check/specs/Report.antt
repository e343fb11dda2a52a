-- What a check writes, and how it ends.
use Rattle.std.specs.Prelude.{◌≡◌, ◌⊎◌, ℕ, ◌+◌, max, slice_get, Bool, true, false, List, [], ◌∷◌}
use Rattle.std.specs.Prelude.{◌++◌, length, map, Option, None, Some, codes, if◌then◌else◌}
use Rattle.std.specs.List.{flat_map, list_any}
use Rattle.std.specs.Str.{bytes_eq}
use Rattle.std.specs.Io.KnownBytes.{Appends}
use Rattle.cnf_base.specs.Literals.{Clause}
use Rattle.cnf_base.specs.Stream.{Input}
use Rattle.cnf_base.specs.Printing.{line_of}
use Rattle.cnf_base.specs.Text.{lines_of}
use Rattle.cnf_base.specs.declared.fault.Fault.{Fault}
use Rattle.dimacs.specs.Formula.{Formula, formula_of}
use Rattle.dimacs.specs.declared.header.Header.{Header}
use Rattle.proofs.specs.Reading.{Proof}
use Rattle.proofs.specs.Steps.{Step}
use Rattle.proofs.specs.Binary.{binary_steps}
use Rattle.proofs.specs.Drat.{drat_steps}
use Rattle.theory.specs.Models.{HasModel}
use Rattle.theory.specs.Rules.{Rule}
use Rattle.theory.specs.Systems.{ProofSystem}
use Rattle.theory.specs.Verdicts.{Ending, verified, refused, no_empty_clause, VerdictBy}
use Rattle.theory.specs.Verdicts.{system_of}
use Rattle.theory.specs.declared.drat_rules.DratRules.{DratRules}
use Rattle.sat_check.specs.declared.options.DratOptions.{DratOptions}
use Rattle.theory.specs.declared.accepted.Accepted.{Accepted}
use Rattle.report.specs.Lines.{formula_line, fault_line, fault_status, trace_line, refusal_line}
use Rattle.report.specs.Lines.{steps_line, end_line, Certificate, a_proof, sentence}
use Rattle.report.specs.declared.status.Status.{Status}
use Rattle.report.specs.declared.status.Status.TheVariants.{Verified, NotVerified, OutOfMemory}
use Rattle.report.specs.declared.status.Status.TheVariants.{WriteFailed}

-- the lines that are written, and how the program ends
pub record Report : Type 0 where
  pub lines : List (List ℕ)
  pub status : Status

-- lines, each with its line feed
abbrev pub text_of : List (List ℕ) → List ℕ
text_of lines = flat_map line_of lines

-- memory or the writer failed, so that what was written may be cut short
abbrev pub is_cut_short : Status → Bool
is_cut_short OutOfMemory = true
is_cut_short WriteFailed = true
is_cut_short status = false

-- A run wrote the report and ended so; or memory ran out, and it wrote a number of its lines; or
-- the writer failed, and it wrote a beginning of the text.
abbrev pub Outcome : Status → Option (List ℕ) → Option (List ℕ) → Report → Type 0
Outcome OutOfMemory old new r =
    (done : List (List ℕ)) × (rest : List (List ℕ)) × (r.lines ≡ done ++ rest)
    × Appends old new (text_of done)
Outcome WriteFailed old new r =
    (part : List ℕ) × (rest : List ℕ) × (text_of r.lines ≡ part ++ rest) × Appends old new part
Outcome s old new r = (s ≡ r.status) × Appends old new (text_of r.lines)

-- ---- The report of a proof

-- a line, and the verdict's last line
abbrev pub concluded : Certificate → List ℕ → Status → Report
concluded certificate line status =
    record { lines = line ∷ sentence certificate status ∷ []; status = status }

-- a report with these lines before its own
abbrev pub with_lines : List (List ℕ) → Report → Report
with_lines front r = record { lines = front ++ r.lines; status = r.status }

-- a line for each accepted step, the first of which has this number
abbrev pub trace_lines : ℕ → List Accepted → List (List ℕ)
trace_lines n [] = []
trace_lines n (word ∷ words) = trace_line n word ∷ trace_lines (n + 1) words

-- the verdict after so many accepted steps; a proof that runs out of steps may end in a fault
abbrev pub verdict_report : ℕ → ℕ → Ending → Option Fault → Report
verdict_report n peak verified fault = concluded a_proof (steps_line n peak) Verified
verdict_report n peak (refused r) fault = concluded a_proof (refusal_line (n + 1) r) NotVerified
verdict_report n peak no_empty_clause None = concluded a_proof end_line NotVerified
verdict_report n peak no_empty_clause (Some f) =
    concluded a_proof (fault_line (codes "proof") f) (fault_status f)

-- the greatest sum of the sizes of the live clauses, over a state and those after accepted steps
abbrev pub peak_by : {State : Type 0} → (State → ℕ) → (State → Step → Accepted → State) →
    State → List Step → List Accepted → ℕ
peak_by sum next state (step ∷ steps) (word ∷ words) =
    max (sum state) (peak_by sum next (next state step word) steps words)
peak_by sum next state _ _ = sum state

-- the steps without their places
abbrev pub bare_steps : Proof → List Step
bare_steps proof = map (λ placed. placed.step) proof.steps

-- the trace, if it is asked for, and the verdict
abbrev pub proof_report : Bool → ℕ → ℕ → List Accepted → Ending → Option Fault → Report
proof_report trace n peak words ending fault =
    with_lines (if trace then trace_lines (n + 1) words else [])
    (verdict_report (n + length words) peak ending fault)

-- the report of a formula without a fault
pub record Checks {State : Type 0} (system : ProofSystem State) (trace : Bool) (h : Header)
    (clauses : List Clause) (proof : Proof) (r : Report) : Type 0 where
  pub words : List Accepted
  pub ending : Ending
  pub verdict : VerdictBy system clauses (bare_steps proof) words ending
  pub report : r ≡ with_lines (formula_line h ∷ [])
      (proof_report trace 0
      (peak_by system.sum system.next (system.first clauses) (bare_steps proof) words)
      words ending proof.fault)

-- The report of a formula with these parts and the steps of a proof, with the trace or without. The
-- formula's fault comes before the proof.
abbrev pub ReportsFormula : {State : Type 0} → ProofSystem State → Bool → Option Header →
    List Clause → Option Fault → Proof → Report → Type 0
ReportsFormula system trace header clauses (Some f) proof r =
    r ≡ concluded a_proof (fault_line (codes "formula") f) (fault_status f)
ReportsFormula system trace (Some h) clauses None proof r = Checks system trace h clauses proof r
ReportsFormula system trace None clauses None proof r = ⊥

-- the rules that options ask for
abbrev pub rules_of : DratOptions → DratRules
rules_of options =
    record { strict = options.strict; pr = options.pr; keep_units = options.keep_units }

-- the steps of a proof in DRAT, in the binary form or as text
abbrev pub drat_proof : (binary : Bool) → Input → Proof
drat_proof binary proof = if binary then binary_steps proof else drat_steps proof

-- ---- What a run did

-- what was written, where the writer tells it, has this line; the last one may lack its line feed
pub record HasWritten (line : List ℕ) (old new : Option (List ℕ)) : Type 0 where
  pub held : List ℕ
  pub bytes : List ℕ
  pub before : old ≡ Some held
  pub after : new ≡ Some (held ++ bytes)
  pub written : list_any (bytes_eq line) (lines_of bytes) ≡ true

-- the status is this one, unless memory or the writer failed
abbrev pub IsUnlessBroken : Status → Status → Type 0
IsUnlessBroken expected status =
    (status ≡ expected) ⊎ (status ≡ OutOfMemory) ⊎ (status ≡ WriteFailed)

-- The formula has no fault, and the proof verifies it: each step up to the first accepted empty
-- clause is accepted by its definition over the clauses that are alive before it.
pub record Verifies {State : Type 0} (system : ProofSystem State) (f : Formula) (p : Proof)
    : Type 0 where
  pub whole : f.fault ≡ None
  pub words : List Accepted
  pub verdict : VerdictBy system f.clauses (bare_steps p) words verified

-- What was written and the status are those of the report of this formula and this proof.
pub record Reports {State : Type 0} (system : ProofSystem State) (trace : Bool) (formula : Input)
    (proof : Proof) (old new : Option (List ℕ)) (status : Status) : Type 0 where
  pub report : Report
  pub reports : ReportsFormula system trace (formula_of formula).header
      (formula_of formula).clauses (formula_of formula).fault proof report
  pub outcome : Outcome status old new report

-- What follows from that. Status 0 is answered exactly where the proof verifies the formula, unless
-- memory or the writer failed. Where it is, and where the line `s VERIFIED` was written, under
-- whatever status, no assignment satisfies the formula.
pub record ProofConsequences {State : Type 0} (system : ProofSystem State) (formula : Input)
    (proof : Proof) (old new : Option (List ℕ)) (status : Status) : Type 0 where
  pub verified : status ≡ Verified → Verifies system (formula_of formula) proof
  pub complete : Verifies system (formula_of formula) proof → IsUnlessBroken Verified status
  pub sound : status ≡ Verified → ¬ HasModel (slice_get (formula_of formula).clauses)
  pub written : HasWritten (codes "s VERIFIED") old new →
      ¬ HasModel (slice_get (formula_of formula).clauses)

-- A run checked this proof of this formula.
pub record ChecksProof {State : Type 0} (system : ProofSystem State) (trace : Bool)
    (formula : Input) (proof : Proof) (old new : Option (List ℕ)) (status : Status) : Type 0 where
  pub reports : Reports system trace formula proof old new status
  pub consequences : ProofConsequences system formula proof old new status

-- ---- Laws

-- A formula and a proof have at most one report.
abbrev pub ReportsAreUnique : Type 0
ReportsAreUnique =
    (rule : Rule) (trace : Bool) (f : Formula) (proof : Proof) (first second : Report) →
    ReportsFormula (system_of rule) trace f.header f.clauses f.fault proof first →
    ReportsFormula (system_of rule) trace f.header f.clauses f.fault proof second → first ≡ second
