use Rattle.std.proofs.Common.{arith, sym}
use Rattle.propagation.proofs.PropagationLemmas.Closing.{all_none, all_taken, follows_forced}
use Rattle.propagation.proofs.PropagationLemmas.Exact.{begins_on, longer_from}
use Rattle.propagation.proofs.closure.take_all.Goals as goal
use Rattle.propagation.proofs.closure.take_all.Goals.{in-Some+in_ok-take, in_default}

pub loop-number-preserved : goal.loop-number-preserved
loop-number-preserved g c = let so_far = c.loop-number.invariant in elim c.match-at.branch [
  | in-Some+in_ok-take w ↦
      let e = w.in_ok-take.ensures in
      rw (w.found-is) (record {
        sound = λ k h. follows_forced _ _ so_far.sound _ _ (sym w.in-Some.ensures) k (e.follows k h);
        begins = grind (arith, begins_on, longer_from);
        takes = all_taken _ _ _ _ so_far.takes _ so_far.begins e.begins _ w.in-Some.ensures e.takes;
      })
  | in_default w ↦ grind (arith, all_none)
]
