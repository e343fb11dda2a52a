use Rattle.propagation.proofs.PropagationLemmas.Exact.{begins_on}
use Rattle.{std.proofs.Common.{arith, nat_abs, rules, ◌∙◌}, trail.proofs.TrailLemmas.Left.left_open}
use Rattle.steps.proofs.LratLemmas.{read_is, same_set_push, units_more, walk_one}
use Rattle.trail.proofs.TrailLemmas.MakesFalse.{begins_made, longer_made, made_true}
use Rattle.steps.proofs.lrat.walk.walk.Goals as goal

pub make_true-requires-clause-not_false : goal.make_true-requires-clause-not_false
make_true-requires-clause-not_false c = (left_open c.loop-i.trues.lits c.in-Some.clause.now c.in-One.l c.in-One.ensures).1

pub make_true-requires-clause-reserved : goal.make_true-requires-clause-reserved
make_true-requires-clause-reserved c =
    let member = (left_open c.loop-i.trues.lits c.in-Some.clause.now c.in-One.l c.in-One.ensures).0 in
    grind (arith, nat_abs)

pub loop-i-preserved : goal.loop-i-preserved
loop-i-preserved c =
    let trues = c.loop-i.trues.lits in let hints = c.args.hints.now in let i = c.loop-i.i in
    let m = c.in-One.l in let after = c.make_true.new.self.lits in let inv = c.loop-i.invariant in
    let was = c.make_true.ensures.was_open in let is = c.make_true.ensures.lits in
    let left_is = units_more hints i (omega arith) (search rules) _ c.if-hint-lt0.false
    c.unsigned_abs-k.ensures.value in
    let here = read_is hints i (omega arith) (search rules) in
    record {
      so_far = walk_one _ trues _ _ _ left_is _ inv.so_far inv.quiet c.in-Some.clause.now
          (grind arith) m c.in-One.ensures after
          (λ l. made_true trues after m _ was is l ∙ same_set_push trues m l);
      quiet = c.make_true.ensures.quiet;
      begins = begins_on c.args.trues.now.lits trues after inv.begins inv.longer
          (begins_made trues after m _ was is);
      longer = omega (arith, longer_made trues after m _ was is, inv.longer);
      next = inv.after;
      after = grind arith;
      reserved = grind arith;
    }
