use Rattle.propagation.proofs.PropagationLemmas.Closing.{each_taken, follows_forced}
use Rattle.propagation.proofs.PropagationLemmas.Exact.{begins_on, longer_from}
use Rattle.std.proofs.{Common.{arith, sym, ◌∙◌}, lemmas.Grind.get_or_default_zero}
use Rattle.propagation.proofs.closure.take_each.Goals as goal

pub loop-slot-preserved : goal.loop-slot-preserved
loop-slot-preserved g c =
    let so_far = c.loop-slot.invariant in let e = c.in_ok-take.ensures in
    let inside = c.loop-slot-test.true in
    let item = c.at.ensures ∙ sym (get_or_default_zero _ _ c.at.result inside) in record {
      sound = grind (arith, follows_forced);
      begins = grind (arith, begins_on, longer_from);
      takes = each_taken _ _ _ _ so_far.begins e.begins _ _ inside _ item so_far.takes _ c.clause.ensures.clause e.takes;
    }
