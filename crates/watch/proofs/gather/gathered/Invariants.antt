-- The clauses of the slots that were passed are there, in the slots that they need.
use Rattle.propagation.proofs.PropagationLemmas.Gather.{IsGathered}
use Rattle.watch.proofs.gather.gathered.Given as goal

abbrev pub invariant-loop-number : goal.invariant-loop-number
invariant-loop-number l = IsGathered l.gathered.propagation l.gathered.slots l.store.live l.number
