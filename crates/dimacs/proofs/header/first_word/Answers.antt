-- A word, or the end, after blank lines.
use Rattle.{cnf_base.proofs.StreamLemmas.Along-still, std.proofs.Common.{Err, Ok, arith, rules}}
use Rattle.cnf_base.{proofs.TokenLemmas.told, specs.declared.fault.TextFault.TheVariants.BadHeader}
use Rattle.cnf_base.specs.declared.fault.Fault.TheVariants.{ReadFailed, Text}
use Rattle.dimacs.proofs.HeaderLemmas.{Blank-first, Blank-line}
use Rattle.cnf_base.specs.declared.token.Token.TheVariants as token
use Rattle.dimacs.proofs.header.first_word.Goals as goal

pub loop-place-init : goal.loop-place-init
loop-place-init g c = search (rules, arith, Along-still)

pub returns-in-Ok-Word-clause-text : goal.returns-in-Ok-Word-clause-text
returns-in-Ok-Word-clause-text g c =
    Blank-first _ _ _ c.loop-place.invariant.text
    (Ok (token.Word c.in-Ok-Word.place c.in-Ok-Word.word))
    (told _ _ _ (Ok (token.Word c.in-Ok-Word.place c.in-Ok-Word.word)) c.next.ensures.tokens
    (search rules)) (λ l. Ok (c.in-Ok-Word.place, c.in-Ok-Word.word, l)) (search rules)

pub loop-place-preserved : goal.loop-place-preserved
loop-place-preserved g c = record {
  text = Blank-line _ _ _ c.loop-place.invariant.text _
      (told _ _ _ (Ok (token.LineEnd c.in-Ok-LineEnd.field-0-0)) c.next.ensures.tokens
      (search rules));
  fewer = search rules;
  mark = search rules;
}

pub returns-in-Ok-End-clause-text : goal.returns-in-Ok-End-clause-text
returns-in-Ok-End-clause-text g c =
    Blank-first _ _ _ c.loop-place.invariant.text (Ok (token.End c.in-Ok-End.place))
    (told _ _ _ (Ok (token.End c.in-Ok-End.place)) c.next.ensures.tokens (search rules))
    (λ l. Err (Text BadHeader c.in-Ok-End.place)) (search rules)

pub returns-in-Err-clause-text : goal.returns-in-Err-clause-text
returns-in-Err-clause-text g c =
    Blank-first _ _ _ c.loop-place.invariant.text (Err _) c.in-Err.ensures.tokens
    (λ l. Err ReadFailed) (search rules)
