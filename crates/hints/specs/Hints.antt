-- Which hint is given (our own profile).
use Rattle.std.specs.Prelude.{◌&&◌, Bool, true, false, not, Option, None, Some, if◌then◌else◌}
use Rattle.cnf_base.specs.declared.fault.Fault.{Fault}
use Rattle.cnf_base.specs.declared.fault.Fault.TheVariants as fault
use Rattle.cnf_base.specs.declared.fault.TextFault.{TextFault}
use Rattle.cnf_base.specs.declared.fault.TextFault.TheVariants as text
use Rattle.cnf_base.specs.declared.fault.BinaryFault.TheVariants as binary
use Rattle.command_line.specs.declared.args.Args.{Args}
use Rattle.command_line.specs.declared.tool.Tool.{Tool}
use Rattle.command_line.specs.declared.tool.Tool.TheVariants.{Drat, Lrat, Model}
use Rattle.hints.specs.declared.evidence.Evidence.{Evidence}
use Rattle.hints.specs.declared.finding.Finding.{Finding}
use Rattle.hints.specs.declared.finding.Finding.TheVariants.{Formula, Second, Refused}
use Rattle.hints.specs.declared.finding.Finding.TheVariants.{NoEmptyClause}
use Rattle.hints.specs.declared.hint.Hint.{Hint}
use Rattle.hints.specs.declared.hint.Hint.TheVariants as hint
use Rattle.hints.specs.declared.kind.Kind.{Kind}
use Rattle.hints.specs.declared.kind.Kind.TheVariants as kind

-- the hint, if this is so
abbrev pub only_if : Bool → Hint → Option Hint
only_if is_so h = if is_so then Some h else None

-- the first hint, or else the other
abbrev pub or_else : Option Hint → Option Hint → Option Hint
or_else (Some h) other = Some h
or_else None other = other

-- a proof, which lines of numbers alone don't show
abbrev pub is_proof : Option Kind → (deletes : Bool) → Bool
is_proof (Some kind.VeriPb) deletes = true
is_proof (Some kind.ProofLine) deletes = true
is_proof (Some kind.FratBinary) deletes = true
is_proof (Some kind.DratBinary) deletes = true
is_proof (Some kind.OtherBinary) deletes = true
is_proof (Some kind.FratText) deletes = true
is_proof (Some kind.LratText) deletes = deletes
is_proof (Some kind.DratText) deletes = deletes
is_proof _ deletes = false

-- what helps with each kind, whichever input it is
abbrev pub decode_hint : Option Kind → Option Hint
decode_hint (Some (kind.Encoded e)) = Some (hint.Decode e)
decode_hint (Some kind.Html) = Some hint.Html
decode_hint _ = None

-- with a proof that was named as the formula
abbrev pub exchange_hint : Tool → Hint
exchange_hint Model = hint.ProofNotFormula
exchange_hint _ = hint.ProofFirst

-- with each other kind, as the formula
abbrev pub header_kind_hint : Option Kind → Option Hint
header_kind_hint (Some kind.Wcnf) = Some hint.Wcnf
header_kind_hint (Some kind.Opb) = Some hint.Opb
header_kind_hint (Some kind.MinisatResult) = Some hint.OutputNotFormula
header_kind_hint (Some kind.ClaspText) = Some hint.OutputNotFormula
header_kind_hint (Some kind.Output) = Some hint.OutputNotFormula
header_kind_hint (Some kind.LratText) = Some hint.NoHeader
header_kind_hint (Some kind.DratText) = Some hint.NoHeader
header_kind_hint (Some kind.Number) = Some hint.NoHeader
header_kind_hint (Some kind.Empty) = Some hint.Empty
header_kind_hint other = decode_hint other

abbrev pub header_hint : Tool → Evidence → Option Hint
header_hint tool shown =
    if is_proof shown.kind shown.deletes then Some (exchange_hint tool)
    else header_kind_hint shown.kind

-- with a fault of the formula
abbrev pub formula_hint : Tool → Fault → Evidence → Option Hint
formula_hint tool (fault.Text text.BadHeader p) shown = header_hint tool shown
formula_hint tool (fault.Text text.BadToken p) shown = only_if shown.satlib_end hint.Satlib
formula_hint tool _ shown = None

-- with what isn't a proof of ours, as the proof
abbrev pub foreign_hint : Option Kind → Option Hint
foreign_hint (Some kind.Cnf) = Some hint.FormulaNotProof
foreign_hint (Some kind.VeriPb) = Some hint.VeriPb
foreign_hint (Some kind.ProofLine) = Some hint.ProofLine
foreign_hint (Some kind.FratText) = Some hint.Frat
foreign_hint (Some kind.FratBinary) = Some hint.FratBinary
foreign_hint (Some kind.MinisatResult) = Some hint.OutputNotProof
foreign_hint (Some kind.ClaspText) = Some hint.OutputNotProof
foreign_hint (Some kind.Output) = Some hint.OutputNotProof
foreign_hint other = decode_hint other

-- with a proof in the other tool's format
abbrev pub format_hint : Tool → Option Kind → (begins_as_drat : Bool) → Option Hint
format_hint Drat (Some kind.LratText) begins_as_drat = Some hint.ReadsAsLrat
format_hint Lrat (Some kind.DratText) begins_as_drat = only_if begins_as_drat hint.ReadsAsDrat
format_hint _ _ begins_as_drat = None

abbrev pub reads_as_hint : Tool → Evidence → Option Hint
reads_as_hint tool shown = format_hint tool shown.kind shown.begins_as_drat

-- with a proof as text or in the binary form, where the other was expected
abbrev pub form_hint : Tool → (binary : Bool) → Option Kind → Option Hint
form_hint Drat binary (Some kind.DratBinary) = only_if (not binary) hint.Binary
form_hint Drat binary (Some kind.DratText) = only_if binary hint.Text
form_hint Lrat binary (Some kind.DratBinary) = Some hint.OnlyText
form_hint Lrat binary (Some kind.OtherBinary) = Some hint.OnlyText
form_hint _ binary _ = None

-- with a proof that ends too early
abbrev pub cut_hint : Fault → Option Hint
cut_hint (fault.Text text.UnterminatedStep p) = Some hint.CutShort
cut_hint (fault.Binary binary.UnterminatedStep n) = Some hint.CutShort
cut_hint _ = None

-- with a fault of the proof
abbrev pub proof_hint : Tool → Args → Fault → Evidence → Option Hint
proof_hint tool args f shown =
    or_else (foreign_hint shown.kind)
    (or_else (reads_as_hint tool shown)
    (or_else (form_hint tool args.binary shown.kind) (cut_hint f)))

-- with what isn't a solver's output, as that output
abbrev pub other_file_hint : Option Kind → (carriage_return : Bool) → Option Hint
other_file_hint (Some kind.Cnf) carriage_return = Some hint.FormulaSecond
other_file_hint (Some kind.MinisatResult) carriage_return =
    only_if (not carriage_return) hint.MinisatResult
other_file_hint (Some kind.ClaspText) carriage_return = Some hint.ClaspText
other_file_hint other carriage_return = decode_hint other

-- with an answer among lines that no output has
abbrev pub lines_hint : TextFault → (is_among_others : Bool) → Option Hint
lines_hint text.BadLine is_among_others = only_if is_among_others hint.OtherLines
lines_hint _ is_among_others = None

-- with lines of numbers
abbrev pub numbers_hint : Option Kind → Option Hint
numbers_hint (Some kind.LratText) = Some hint.ModelLines
numbers_hint (Some kind.DratText) = Some hint.ModelLines
numbers_hint (Some kind.Number) = Some hint.ModelLines
numbers_hint _ = None

-- with an output that lacks something
abbrev pub missing_hint : TextFault → Option Kind → Option Hint
missing_hint text.NoStatus (Some kind.Empty) = Some hint.Empty
missing_hint text.NoStatus (Some kind.Output) = Some hint.NoStatusLine
missing_hint text.UnterminatedModel _ = Some hint.NoLastZero
missing_hint _ _ = None

abbrev pub plain_output_hint : TextFault → Evidence → Option Hint
plain_output_hint f shown =
    if is_proof shown.kind shown.deletes then Some hint.ProofNotOutput
    else or_else (numbers_hint shown.kind) (missing_hint f shown.kind)

abbrev pub shown_hint : TextFault → Evidence → Option Hint
shown_hint f shown =
    or_else (other_file_hint shown.kind shown.carriage_return)
    (or_else (lines_hint f shown.answer_among_others) (plain_output_hint f shown))

-- with a fault of a solver's output, unless its model is wrong or there is none
abbrev pub text_hint : TextFault → Evidence → Option Hint
text_hint text.NotClaimed shown = None
text_hint text.Complement shown = None
text_hint f shown = shown_hint f shown

abbrev pub output_hint : Fault → Evidence → Option Hint
output_hint (fault.Text f p) shown = text_hint f shown
output_hint _ shown = None

abbrev pub second_hint : Tool → Args → Fault → Evidence → Option Hint
second_hint _ args fault.ReadFailed shown = None
second_hint _ args fault.OutOfMemory shown = None
second_hint Model args f shown = output_hint f shown
second_hint tool args f shown = proof_hint tool args f shown

-- with a step that has its first literal twice
abbrev pub witness_hint : Args → Option Kind → (repeats : Bool) → Option Hint
witness_hint args (Some kind.DratText) repeats =
    only_if (repeats && (not args.pr && not args.binary)) hint.Witness
witness_hint args _ repeats = None

-- with a refused step
abbrev pub step_hint : Tool → Args → (literal_lost : Bool) → Evidence → Option Hint
step_hint Drat args true shown = Some hint.KeepUnits
step_hint Drat args false shown = witness_hint args shown.kind shown.repeats
step_hint _ args literal_lost shown = None

-- with a proof of which nothing is wrong but that it ends
abbrev pub empty_hint : Option Kind → Option Hint
empty_hint (Some kind.Empty) = Some hint.Empty
empty_hint _ = None

-- What may help where a check found this, by what the input shows: the formula where that is
-- malformed, and else the second one.
abbrev pub hint_of : Tool → Args → Finding → Evidence → Option Hint
hint_of tool args (Formula f) shown = formula_hint tool f shown
hint_of tool args (Second f) shown = second_hint tool args f shown
hint_of tool args (Refused literal_lost) shown =
    or_else (reads_as_hint tool shown) (step_hint tool args literal_lost shown)
hint_of tool args NoEmptyClause shown =
    or_else (reads_as_hint tool shown) (empty_hint shown.kind)
