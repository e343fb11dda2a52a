use Rattle.std.proofs.{Common.arith, Common.sym, Common.◌∙◌, lemmas.List.take_all}
use Rattle.propagation.proofs.PropagationLemmas.Levels.{noted_next, noted_past, noted_whole}
use Rattle.propagation.proofs.assumptions.note_all.Goals as goal
use Rattle.propagation.proofs.assumptions.note_all.Goals.{then-keeps_literal, else-keeps_literal}

pub loop-l-init : goal.loop-l-init
loop-l-init g c = grind arith

pub loop-l-preserved : goal.loop-l-preserved
loop-l-preserved g c =
    let keeps = g.P.Part.keeps c.args.part.now in let x = c.l-item.result in
    let so_far = c.loop-l.invariant in
    elim c.if-keeps_literal.branch [
      | then-keeps_literal w ↦
          let e = w.note.ensures in
          rw w.numbers-is (record {
            notes = noted_next _ _ _ keeps _ _ c.loop-l.l-index c.loop-l-test.true x c.l-item.is so_far.notes _ _ w.var.ensures.value e.other e.old e.new (sym c.keeps_literal.ensures ∙ w.if-keeps_literal.true);
            known = λ v. e.known v ∙ so_far.known v;
          })
      | else-keeps_literal w ↦ grind (arith, noted_past)
    ]

pub returns-clause-notes : goal.returns-clause-notes
returns-clause-notes g c =
    noted_whole _ _ _ (g.P.Part.keeps c.args.part.now) _ _ c.loop-l.l-index
    (take_all c.loop-l.l-index c.args.clause.now c.loop-l-test.false) c.loop-l.invariant.notes
