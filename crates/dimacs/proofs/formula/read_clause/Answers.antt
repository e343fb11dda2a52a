-- A token of a clause: a number that was ahead, or another one.
use Rattle.std.proofs.Common.{◌≡◌, ◌++◌, ◌∷◌, [], rules, Ok, Err}
use Rattle.cnf_base.specs.declared.token.Token.TheVariants as token
use Rattle.cnf_base.specs.declared.word.Word.TheVariants as words
use Rattle.cnf_base.{specs.declared.fault.Fault.TheVariants.OutOfMemory, proofs.TokenLemmas.told}
use Rattle.dimacs.proofs.FormulaLemmas.{Between-start, Between-line, Between-literal}
use Rattle.dimacs.proofs.FormulaLemmas.{Between-clause, Between-fault, Between-refused, Between-end}
use Rattle.dimacs.proofs.FormulaLemmas.{Between-failed}
use Rattle.dimacs.proofs.formula.read_clause.Goals as goal

pub loop-count-init : goal.loop-count-init
loop-count-init g c = Between-start _ _ _ _

-- ---- A number that was ahead

pub returns-in_err-push-in-Ok-Some-clause-clause : goal.returns-in_err-push-in-Ok-Some-clause-clause
returns-in_err-push-in-Ok-Some-clause-clause g c =
    let refused : c.from_residual.result ≡ Err OutOfMemory = search rules in
    rw refused (Between-refused _ _ _ _ _ _ _ c.loop-count.invariant _
    (words.Number c.in-Some.number)
    (c.take_number.ensures.taken c.in-Some.number c.in-Some.ensures) c.push.new.self)

pub loop-count-preserved-in-Some : goal.loop-count-preserved-in-Some
loop-count-preserved-in-Some g c =
    let pushed : c.push.new.self ≡ c.loop-count.clause ++ c.in-Ok-Some.lit ∷ [] = search rules in
    rw pushed (Between-literal _ _ _ _ _ _ _ c.loop-count.invariant _
    (words.Number c.in-Some.number)
    (c.take_number.ensures.taken c.in-Some.number c.in-Some.ensures) c.in-Ok-Some.lit
    (search rules) c.take_number.ensures.fewer c.take_number.ensures.mark)

pub returns-in-Ok-None-clause-clause : goal.returns-in-Ok-None-clause-clause
returns-in-Ok-None-clause-clause g c =
    Between-clause _ _ _ _ _ _ _ c.loop-count.invariant _ (words.Number c.in-Some.number)
    (c.take_number-in-Ok-None.ensures.taken c.in-Some.number c.in-Some.ensures) (search rules)

pub returns-in-Err-clause-clause : goal.returns-in-Err-clause-clause
returns-in-Err-clause-clause g c =
    Between-fault _ _ _ _ _ _ _ c.loop-count.invariant _ (words.Number c.in-Some.number)
    (c.take_number-in-Err.ensures.taken c.in-Some.number c.in-Some.ensures) c.in-Err.kind
    (search rules)

-- ---- Another token

pub returns-in_err-push-in-Ok-Some-judge-clause-clause
    : goal.returns-in_err-push-in-Ok-Some-judge-clause-clause
returns-in_err-push-in-Ok-Some-judge-clause-clause g c =
    let refused : c.from_residual-in_err-push-in-Ok-Some-judge.result
    ≡ Err OutOfMemory = search rules in
    rw refused (Between-refused _ _ _ _ _ _ _ c.loop-count.invariant c.in-Ok-Word.place
    c.in-Ok-Word.word (told _ _ _ (Ok (token.Word c.in-Ok-Word.place c.in-Ok-Word.word))
    c.next_other.ensures.tokens (search rules)) c.push-in-Ok-Some-judge.new.self)

pub loop-count-preserved-in-Continue-branch-2 : goal.loop-count-preserved-in-Continue-branch-2
loop-count-preserved-in-Continue-branch-2 g c =
    let pushed : c.push-in-Ok-Some-judge.new.self
    ≡ c.loop-count.clause ++ c.in-Ok-Some-judge.lit ∷ [] = search rules in
    rw pushed (Between-literal _ _ _ _ _ _ _ c.loop-count.invariant c.in-Ok-Word.place
    c.in-Ok-Word.word (told _ _ _ (Ok (token.Word c.in-Ok-Word.place c.in-Ok-Word.word))
    c.next_other.ensures.tokens (search rules)) c.in-Ok-Some-judge.lit (search rules)
    (search rules) (search rules))

pub returns-in-Ok-None-judge-clause-clause : goal.returns-in-Ok-None-judge-clause-clause
returns-in-Ok-None-judge-clause-clause g c =
    Between-clause _ _ _ _ _ _ _ c.loop-count.invariant c.in-Ok-Word.place c.in-Ok-Word.word
    (told _ _ _ (Ok (token.Word c.in-Ok-Word.place c.in-Ok-Word.word))
    c.next_other.ensures.tokens (search rules)) (search rules)

pub returns-in-Err-judge-clause-clause : goal.returns-in-Err-judge-clause-clause
returns-in-Err-judge-clause-clause g c =
    Between-fault _ _ _ _ _ _ _ c.loop-count.invariant c.in-Ok-Word.place c.in-Ok-Word.word
    (told _ _ _ (Ok (token.Word c.in-Ok-Word.place c.in-Ok-Word.word))
    c.next_other.ensures.tokens (search rules)) c.in-Err-judge.kind (search rules)

pub loop-count-preserved : goal.loop-count-preserved
loop-count-preserved g c =
    Between-line _ _ _ _ _ _ _ c.loop-count.invariant c.in-Ok-LineEnd.field-0-0
    (told _ _ _ (Ok (token.LineEnd c.in-Ok-LineEnd.field-0-0)) c.next_other.ensures.tokens
    (search rules)) (search rules) (search rules)

pub returns-in-Ok-End-clause-clause : goal.returns-in-Ok-End-clause-clause
returns-in-Ok-End-clause-clause g c =
    Between-end _ _ _ _ _ _ _ c.loop-count.invariant c.in-Ok-End.place c.at_end.result
    (told _ _ _ (Ok (token.End c.in-Ok-End.place)) c.next_other.ensures.tokens (search rules))
    c.at_end.ensures.value

pub returns-in-Err-next_other-clause-clause : goal.returns-in-Err-next_other-clause-clause
returns-in-Err-next_other-clause-clause g c =
    Between-failed _ _ _ _ _ _ _ c.loop-count.invariant _ c.in-Err-next_other.ensures.tokens
