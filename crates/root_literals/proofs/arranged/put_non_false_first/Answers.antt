use Rattle.root_literals.proofs.RootLemmas.Arranged.{arranged_one, one_inside}
use Rattle.std.proofs.{Common.{arith, ◌∙◌}, lemmas.Grind.get_or_default_zero}
use Rattle.root_literals.proofs.arranged.put_non_false_first.Goals as goal

pub returns-else-is_more-clause-arranged : goal.returns-else-is_more-clause-arranged
returns-else-is_more-clause-arranged c clause there = let trues = c.args.trail.now.lits in
    let d = c.bring.ensures.brought clause there in
    let e = c.bring-is_more.ensures.brought d.0 d.1 in
    (e.0, e.1, λ l. e.2.alike l ∙ d.2.alike l, arranged_one trues clause d.0 e.0 (grind arith) (grind arith) c.index-clause-0.result (grind (arith, get_or_default_zero, one_inside)))
