-- What a run wrote, and how it ended.
use Rattle.{cnf_base.proofs.TextLemmas.append_nil, sat_check.specs.Code.Reach.IsVerdict}
use Rattle.{cnf_base.specs.{Literals.Literal, Printing.line_of}, std.specs.Io.KnownBytes.Appends}
use Rattle.{cnf_base.specs.Text.lines_of, dimacs.specs.Formula.Formula, proofs.specs.Reading.Proof}
use Rattle.cnf_base.specs.declared.fault.Fault.{Fault, TheVariants.OutOfMemory as NoMemory}
use Rattle.{dimacs.specs.declared.header.Header.Header, sat_check.specs.ModelReport.claim_report}
use Rattle.report.specs.Lines.{Certificate, a_model, a_proof, fault_line, fault_status, sentence}
use Rattle.report.specs.{Lines.shown, declared.status.Status.{Status, TheVariants.WriteFailed}}
use Rattle.report.specs.declared.status.Status.TheVariants.{Malformed, OutOfMemory, Verified}
use Rattle.sat_check.specs.Report.{HasWritten, Outcome, Report, ReportsFormula, concluded}
use Rattle.sat_check.specs.Report.{proof_report, text_of, trace_lines, verdict_report, with_lines}
use Rattle.sat_check.specs.declared.{checked.Checked.Checked, input_fault.InputFault.InputFault}
use Rattle.std.proofs.Common.{Bool, List, None, Option, Some, [], append_assoc, arith, codes, false}
use Rattle.std.proofs.Common.{min, not, refl, rules, suc, sym, true, zero, ℕ, ◌%◌, ◌&&◌, ◌++◌, ◌+◌}
use Rattle.std.proofs.{Common.{◌-◌, ◌/◌, ◌==◌, ◌^◌, ◌∙◌, ◌∷◌, ◌≡◌}, lemmas.Grind.flat_map-append}
use Rattle.std.{proofs.lemmas.Bool.and_parts, specs.{List.{list_all, list_any}, Str.bytes_eq}}
use Rattle.std.proofs.lemmas.List.{append_cancel_left, Folds.{list_all-append, list_any-append}}
use Rattle.std.specs.{Fmt.{digit_glyph, digits, digits_onto}, Prelude.{OnOk, Result, decimal}}
use Rattle.theory.specs.Rules.{Rule}
use Rattle.theory.specs.{Verdicts.{Ending, system_of}, declared.accepted.Accepted.Accepted}
use Rattle.writers.{proofs.LineLemmas.{Appends-then, Writes-nothing}, specs.Lines.{Sink, Writes}}

abbrev pub Lines : Type 0
Lines = List (List ℕ)

-- what a writer holds, where that is known
abbrev pub Held : Type 0
Held = Option (List ℕ)

-- from one moment of the writer to another it took a report that came to this end
abbrev pub Reported : Status → Sink → Sink → Report → Type 0
Reported status old new r = Outcome status old.held new.held r

-- the run broke off where any report may have
abbrev pub BrokeOff : Status → Sink → Sink → Type 0
BrokeOff status old new = (r : Report) → Reported status old new r

-- The run broke off at this fault of an input, which has its lines; memory that ran out has none.
pub record FailsOn (certificate : Certificate) (name : List ℕ) (f : Fault) (input : InputFault)
    (was now : Sink) (checked : Checked) : Type 0 where
  pub refused : checked.refused ≡ None
  pub none_lost : checked.literal_lost ≡ false
  pub no_clause : checked.unmet ≡ None
  pub malformed : checked.status ≡ Malformed → checked.fault ≡ Some input
  pub only : (checked.status ≡ Malformed → ⊥) → checked.fault ≡ None
  pub gave_up : f ≡ NoMemory → checked.status ≡ OutOfMemory
  pub memory : f ≡ NoMemory → BrokeOff checked.status was now
  pub told : (f ≡ NoMemory → ⊥) → Reported checked.status was now
      (concluded certificate (fault_line name f) (fault_status f))

-- the report of this formula and this proof
abbrev pub ReportsOf : Rule → Bool → Formula → Proof → Report → Type 0
ReportsOf rule trace f p r = ReportsFormula (system_of rule) trace f.header f.clauses f.fault p r

pub text_of-append : (front back : Lines) → text_of (front ++ back) ≡ text_of front ++ text_of back
text_of-append front back = flat_map-append line_of front back

-- what was written of a report of another status is no verdict's
pub no_verdict : (status : Status) (old new : Held) (lines : Lines) →
    Outcome status old new (record { lines = lines; status = Malformed }) → IsVerdict status → ⊥
no_verdict status old new lines o v = search rules

-- lines, and then the rest of a report
pub Outcome-after : (status : Status) (old now new : Held) (front : Lines) (r : Report) → Appends
    old now (text_of front) → Outcome status now new r → Outcome status old new (with_lines front r)
Outcome-after OutOfMemory old now new f r a o =
    (f ++ o.0, o.1, search (rules, append_assoc, o.2), grind (arith, text_of-append, Appends-then))
Outcome-after WriteFailed old now new front r a o =
    (_, o.1, search (rules, text_of-append, append_assoc, o.2), Appends-then _ _ _ _ _ a o.3)
Outcome-after status old now new front r a o =
    (o.0, rw (text_of-append front r.lines) (Appends-then old now new _ _ a o.1))

module _ (old new : Sink) where
  -- a line of which only a beginning was written
  pub Outcome-broken : (text : List ℕ) (lines : Lines) (s : Status) → Writes old new (line_of text)
      → Reported WriteFailed old new (record { lines = text ∷ lines; status = s })
  Outcome-broken text lines s w =
      (w.part, w.rest ++ text_of lines, search (rules, append_assoc, w.whole), w.appends)

  -- nothing more was written, and the writer failed
  pub Outcome-closed : (r : Report) → Writes old new [] → Reported WriteFailed old new r
  Outcome-closed r w = ([], text_of r.lines, refl, Writes-nothing old new w)

  -- or memory ran out
  pub Outcome-refused : (r : Report) → Writes old new [] → Reported OutOfMemory old new r
  Outcome-refused r w = ([], r.lines, refl, Writes-nothing old new w)

-- a text of which all was written
pub Writes-all : (old new : Sink) (text : List ℕ) → Writes old new text → new.is_broken ≡ false → Appends old.held new.held text
Writes-all old new text w sound = search rules

-- one line
pub Writes-line : (old new : Sink) (text : List ℕ) → Writes old new (line_of text) → Writes old new (text_of (text ∷ []))
Writes-line old new text w = search rules

-- a whole line, and then the rest
pub Outcome-line : (status : Status) (old now : Sink) (new : Held) (text : List ℕ) (r : Report) →
    Writes old now (line_of text) → now.is_broken ≡ false → Outcome status now.held new r →
    Outcome status old.held new (record { lines = text ∷ r.lines; status = r.status })
Outcome-line status old now new text r w sound o =
    Outcome-after status _ _ new (text ∷ []) r (Writes-all old now _ (Writes-line old now text w)
    sound) o

-- nothing followed a report
pub Outcome-flushed : (status : Status) (old new : Sink) → Writes old new [] → new.is_broken ≡ false
    → Reported status old new (record { lines = []; status = status })
Outcome-flushed status old new w sound = search rules

-- what follows of an answer's fact
pub on_ok : {A E : Type 0} (r : Result A E) (P Q : Type 0) → OnOk r P → (P → Q) → OnOk r Q
on_ok r P Q h h2 = search rules

-- ---- Texts without a line feed

abbrev pub has_no_feed : List ℕ → Bool
has_no_feed bytes = list_all (λ b. not (b == 10)) bytes

-- a text without a line feed
abbrev IsPlain : List ℕ → Type 0
IsPlain bytes = has_no_feed bytes ≡ true

abbrev ArePlain : Lines → Type 0
ArePlain lines = list_all has_no_feed lines ≡ true

digits_test : (k n : ℕ) (acc : List ℕ) → IsPlain acc → IsPlain (digits_onto k 10 false n acc)
digits_test zero n acc e = e
digits_test (suc k) n acc e =
    search (rules, (digits_test k (n / 10) (digit_glyph false (n % 10) ∷ acc)))

number_plain : (n : ℕ) → IsPlain (decimal n)
unfolding digits
number_plain n = digits_test 64 n [] refl

-- ---- The lines of a beginning of a text

-- the first bytes of a line
abbrev begins : List ℕ → List ℕ → Bool
begins [] line = true
begins (b ∷ bs) [] = false
begins (b ∷ bs) (c ∷ cs) = (b == c) && begins bs cs

-- equal lines begin alike
begins_same : (line part rest : List ℕ) → bytes_eq line part ≡ true → begins line (part ++ rest) ≡ true
begins_same [] part rest e = refl
begins_same (b ∷ bs) [] rest e = absurd (let bad : false ≡ true = e in cc)
begins_same (b ∷ bs) (c ∷ cs) rest e = search (rules, (begins_same bs cs rest))

cut_line : (line ys : List ℕ) → IsPlain line → lines_of (line ++ 10 ∷ ys) ≡ line ∷ lines_of ys
cut_line [] ys e = refl
cut_line (b ∷ bs) ys e = search (rules, (cut_line bs ys))

uncut_line : (line : List ℕ) → IsPlain line → lines_of line ≡ line ∷ []
uncut_line [] e = refl
uncut_line (b ∷ bs) e = search (rules, (uncut_line bs))

-- a beginning of a line and what follows it is a beginning of the line, or the line and a beginning of what follows
data Cut (line text part rest : List ℕ) : Type 0 where
  within : (x : List ℕ) → line ≡ part ++ x → Cut line text part rest
  past : (x : List ℕ) → part ≡ line ++ 10 ∷ x → text ≡ x ++ rest → Cut line text part rest

cut_at : (line text part rest : List ℕ) → line ++ 10 ∷ text ≡ part ++ rest → Cut line text part rest
cut_at line text [] rest e = within line refl
cut_at [] text (b ∷ bs) rest e = past bs (cc) (cc)
cut_at (l ∷ ls) text (b ∷ bs) rest e = elim (cut_at ls text bs rest (cc)) [
  | within x is ↦ within x (cc)
  | past x is more ↦ past x (cc) more
]

-- a line that was written whole, or last without its line feed, begins one of the lines of the text
among_lines : (b : ℕ) (bs : List ℕ) (lines : Lines) (part rest : List ℕ) → ArePlain lines →
    text_of lines ≡ part ++ rest → list_any (bytes_eq (b ∷ bs)) (lines_of part) ≡ true → list_any (begins (b ∷ bs)) lines ≡ true
among_lines b bs [] [] rest all whole written = absurd (let bad : false ≡ true = written in cc)
among_lines b bs [] (p ∷ ps) rest all whole written = cc
among_lines b bs (line ∷ lines) part rest all whole written =
    let both = and_parts (has_no_feed line) (list_all has_no_feed lines) all in
    elim (cut_at line (text_of lines) part rest
    (sym (append_assoc line (10 ∷ []) (text_of lines)) ∙ whole)) [
      | within x is ↦ search (rules, and_parts, list_all-append, uncut_line, begins_same)
      | past x is more ↦
          search (rules, by_line, cut_line, (among_lines b bs lines x rest both.1 more))
    ]
  where
    by_line : (line : List ℕ) (lines text : Lines) → list_any (bytes_eq (b ∷ bs)) (line ∷ text) ≡
        true → (list_any (bytes_eq (b ∷ bs)) text ≡ true → list_any (begins (b ∷ bs)) lines ≡ true) → list_any (begins (b ∷ bs)) (line ∷ lines) ≡ true
    by_line line lines text e next = search (rules, append_nil, (begins_same (b ∷ bs) line []))

-- ---- The lines of a report

-- the sentence of a positive verdict
abbrev positive : Certificate → List ℕ
positive certificate = sentence certificate Verified

-- one of the lines begins with it
abbrev IsTold : Certificate → Lines → Bool
IsTold certificate lines = list_any (begins (positive certificate)) lines

-- a line that begins with that sentence is among the lines under status 0 alone
record Tells (certificate : Certificate) (r : Report) : Type 0 where
  plain : ArePlain r.lines
  told : IsTold certificate r.lines ≡ true → r.status ≡ Verified

shown_plain : (n : ℕ) → IsPlain (shown n)
shown_plain n = number_plain (min n (2 ^ 64 - 1))

verdict_tells : (n peak : ℕ) (ending : Ending) (fault : Option Fault) → Tells a_proof (verdict_report n peak ending fault)
verdict_tells n peak ending fault = search (rules, arith, list_all-append, number_plain)

-- lines in front of a report
front_tells : (lines : Lines) (r : Report) → ArePlain lines → IsTold a_proof lines ≡ false → Tells a_proof r → Tells a_proof (with_lines lines r)
front_tells lines r e other t = search (rules, list_all-append, list_any-append)

trace_plain : (n : ℕ) (words : List Accepted) → ArePlain (trace_lines n words)
trace_plain n [] = refl
trace_plain n (w ∷ ws) = search (rules, list_all-append, shown_plain, (trace_plain (n + 1) ws))

trace_other : (n : ℕ) (words : List Accepted) → IsTold a_proof (trace_lines n words) ≡ false
trace_other n [] = refl
trace_other n (w ∷ ws) = trace_other (n + 1) ws

proof_tells : (trace : Bool) (n peak : ℕ) (words : List Accepted) (ending : Ending) (fault : Option Fault) → Tells a_proof (proof_report trace n peak words ending fault)
proof_tells true n peak words ending fault =
    search (rules, front_tells, trace_plain, trace_other, verdict_tells)
proof_tells false n peak words ending fault = search (rules, verdict_tells)

report_tells : (rule : Rule) (trace : Bool) (f : Formula) (p : Proof) (r : Report) → ReportsOf rule trace f p r → Tells a_proof r
report_tells rule trace f p r reports = by f.header f.fault reports
  where
    by : (header : Option Header) (fault : Option Fault) → ReportsFormula (system_of rule) trace header f.clauses fault p r → Tells a_proof r
    by header (Some f) e = rw e (search (rules, arith, list_all-append, number_plain))
    by (Some h) None c =
        rw c.report (search (rules, front_tells, list_all-append, number_plain, proof_tells))
    by None None c = absurd c

claim_tells : (claim : Result (List Literal) Fault) (f : Formula) → Tells a_model (claim_report claim f)
claim_tells claim f = search (rules, arith, list_all-append, number_plain)

-- ---- What a run wrote

-- what was written begins the report's text
abbrev Begins : Held → Held → Report → Type 0
Begins old new r = (part rest : List ℕ) × (text_of r.lines ≡ part ++ rest) × Appends old new part

outcome_begins : (status : Status) (old new : Held) (r : Report) → Outcome status old new r → Begins old new r
outcome_begins status old new r o = search (rules, whole, text_of-append)
  where
    whole : Appends old new (text_of r.lines) → Begins old new r
    whole a = (text_of r.lines, [], sym (append_nil (text_of r.lines)), a)

-- where that sentence was written, the report has status 0
module _ (r : Report) (status : Status) (old new : Held) (o : Outcome status old new r) where
  sentence_written : (b : ℕ) (bs : List ℕ) → ArePlain r.lines →
      (list_any (begins (b ∷ bs)) r.lines ≡ true → r.status ≡ Verified) → HasWritten (b ∷ bs) old new → r.status ≡ Verified
  sentence_written b bs plain told w =
      search (rules, outcome_begins, append_cancel_left, among_lines)

  pub written_verified : (rule : Rule) (trace : Bool) (f : Formula) (p : Proof) → ReportsOf rule trace f p r → HasWritten (codes "s VERIFIED") old new → r.status ≡ Verified
  written_verified rule trace f p reports w = let t = report_tells rule trace f p r reports in
      sentence_written 115 (codes " VERIFIED") t.plain t.told w

pub written_model : (claim : Result (List Literal) Fault) (f : Formula) (status : Status)
    (old new : Held) → Outcome status old new (claim_report claim f) →
    HasWritten (codes "s MODEL VERIFIED") old new → (claim_report claim f).status ≡ Verified
written_model claim f status old new o w = let t = claim_tells claim f in
    sentence_written _ status old new o 115 (codes " MODEL VERIFIED") t.plain t.told w
