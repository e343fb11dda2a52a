-- Two lines in turn, and a flush.
use Rattle.report.specs.{Lines.sentence, Subjects.certificate_of}
use Rattle.report.specs.declared.status.Status.TheVariants.{WriteFailed}
use Rattle.sat_check.proofs.OutcomeLemmas.{Outcome-broken, Outcome-closed, Outcome-flushed}
use Rattle.{sat_check.proofs.OutcomeLemmas.Outcome-line, std.proofs.Common.{[], rules, ◌∷◌, ◌≡◌}}
use Rattle.sat_check.proofs.conclude.conclude.Goals as goal

pub returns-then-is_err-clause-outcome : goal.returns-then-is_err-clause-outcome
returns-then-is_err-clause-outcome g c = λ text is.
    let bytes : c.bytes.result.now ≡ text = search rules in
    let last = sentence (certificate_of c.args.subject) c.args.status in
    Outcome-broken _ _ text (last ∷ []) c.args.status (rw bytes at c.line-2.ensures.writes)

pub returns-then-is_err-2-clause-outcome : goal.returns-then-is_err-2-clause-outcome
returns-then-is_err-2-clause-outcome g c = λ text is.
    let bytes : c.bytes.result.now ≡ text = search rules in
    let last = sentence (certificate_of c.args.subject) c.args.status in
    Outcome-line WriteFailed _ _ _ text (record { lines = last ∷ []; status = c.args.status })
    (rw bytes at c.line-2.ensures.writes) (search rules) (Outcome-broken _ _ last [] c.args.status
    (rw c.sentence.ensures at c.line-3.ensures.writes))

pub returns-then-is_err-3-clause-outcome : goal.returns-then-is_err-3-clause-outcome
returns-then-is_err-3-clause-outcome g c = λ text is.
    let bytes : c.bytes.result.now ≡ text = search rules in
    let last = sentence (certificate_of c.args.subject) c.args.status in
    Outcome-line WriteFailed _ _ _ text (record { lines = last ∷ []; status = c.args.status })
    (rw bytes at c.line-2.ensures.writes) (search rules)
    (Outcome-line WriteFailed _ _ _ last (record { lines = []; status = c.args.status })
    (rw c.sentence.ensures at c.line-3.ensures.writes) (search rules)
    (Outcome-closed _ _ (record { lines = []; status = c.args.status }) c.finish.ensures.writes))

pub returns-clause-outcome : goal.returns-clause-outcome
returns-clause-outcome g c = λ text is.
    let bytes : c.bytes.result.now ≡ text = search rules in
    let last = sentence (certificate_of c.args.subject) c.args.status in
    Outcome-line c.args.status _ _ _ text (record { lines = last ∷ []; status = c.args.status })
    (rw bytes at c.line-2.ensures.writes) (search rules)
    (Outcome-line c.args.status _ _ _ last (record { lines = []; status = c.args.status })
    (rw c.sentence.ensures at c.line-3.ensures.writes) (search rules)
    (Outcome-flushed c.args.status _ _ c.finish.ensures.writes (search rules)))
