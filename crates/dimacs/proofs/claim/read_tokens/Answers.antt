-- A token of an output.
use Rattle.{cnf_base.proofs.TokenLemmas.told, std.proofs.Common.{Ok, rules}}
use Rattle.dimacs.proofs.ClaimLemmas.{Hears-bad_line, Hears-bad_word, Hears-end, Hears-failed}
use Rattle.dimacs.{proofs.ClaimLemmas.{Hears-line, Hears-start, Hears-word}, specs.Claim.nothing}
use Rattle.cnf_base.specs.declared.token.Token.TheVariants as token
use Rattle.dimacs.proofs.claim.read_tokens.Goals as goal

pub loop-place-init : goal.loop-place-init
loop-place-init g c = rw c.new-said.ensures (Hears-start _ nothing)

pub loop-place-preserved-in_default : goal.loop-place-preserved-in_default
loop-place-preserved-in_default g c =
    Hears-word _ _ _ _ _ c.loop-place.invariant c.in-Ok-Word.place c.in-Ok-Word.word
    (told _ _ _ (Ok (token.Word c.in-Ok-Word.place c.in-Ok-Word.word)) c.next.ensures.tokens
    (search rules)) c.take_word.new.self c.in_default.ensures (search rules)

pub returns-in-Err-take_word-clause-claim : goal.returns-in-Err-take_word-clause-claim
returns-in-Err-take_word-clause-claim g c =
    Hears-bad_word _ _ _ _ _ c.loop-place.invariant c.in-Ok-Word.place c.in-Ok-Word.word
    (told _ _ _ (Ok (token.Word c.in-Ok-Word.place c.in-Ok-Word.word)) c.next.ensures.tokens
    (search rules)) c.in-Err-take_word.fault c.take_word.new.self c.in-Err-take_word.ensures

pub loop-place-preserved : goal.loop-place-preserved
loop-place-preserved g c =
    Hears-line _ _ _ _ _ c.loop-place.invariant c.in-Ok-LineEnd.place
    (told _ _ _ (Ok (token.LineEnd c.in-Ok-LineEnd.place)) c.next.ensures.tokens (search rules))
    c.end_line.new.self c.in_default-end_line.ensures (search rules)

pub returns-in-Err-end_line-clause-claim : goal.returns-in-Err-end_line-clause-claim
returns-in-Err-end_line-clause-claim g c =
    Hears-bad_line _ _ _ _ _ c.loop-place.invariant c.in-Ok-LineEnd.place
    (told _ _ _ (Ok (token.LineEnd c.in-Ok-LineEnd.place)) c.next.ensures.tokens (search rules))
    c.in-Err-end_line.fault c.end_line.new.self c.in-Err-end_line.ensures

pub returns-in-Ok-End-clause-claim : goal.returns-in-Ok-End-clause-claim
returns-in-Ok-End-clause-claim g c =
    Hears-end _ _ _ _ _ c.loop-place.invariant c.in-Ok-End.place c.conclude.result
    (told _ _ _ (Ok (token.End c.in-Ok-End.place)) c.next.ensures.tokens (search rules))
    c.conclude.ensures.claim

pub returns-in-Err-clause-claim : goal.returns-in-Err-clause-claim
returns-in-Err-clause-claim g c =
    Hears-failed _ _ _ _ _ c.loop-place.invariant _ c.in-Err.ensures.tokens
