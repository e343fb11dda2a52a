-- One clause more, or none in a slot without one.
use Rattle.std.proofs.Common.{rules, arith}
use Rattle.propagation.proofs.PropagationLemmas.Gather.{gathered_all, gathered_next, gathered_none}
use Rattle.propagation.proofs.PropagationLemmas.Gather.{gathered_nothing}
use Rattle.propagation.proofs.scan.gather.gathered.Goals as goal
use Rattle.propagation.proofs.scan.gather.gathered.Goals.{in-Some+in_ok-insert, in_default}

pub loop-number-init : goal.loop-number-init
loop-number-init c = let made = c.in_ok-gathered.ensures in
    gathered_none c.args.store.now.live made.live made.slots made.nothing_assumed made.refused

pub loop-number-preserved : goal.loop-number-preserved
loop-number-preserved c =
    elim c.match-at.branch [
      | in-Some+in_ok-insert w ↦
          let put = w.in_ok-insert.ensures in
          rw w.gathered-is (gathered_next (search rules) put.free put.stored put.others w.insert.ensures.nothing_assumed w.insert.ensures.refused w.insert.ensures.few_slots c.loop-number.invariant)
      | in_default w ↦ rw w.gathered-is (gathered_nothing (search rules) c.loop-number.invariant)
    ]

pub returns-clause-live : goal.returns-clause-live
returns-clause-live c = gathered_all (grind arith) c.loop-number.invariant
