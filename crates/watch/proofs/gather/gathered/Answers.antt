-- One clause more, or none in a slot without one.
use Rattle.propagation.proofs.PropagationLemmas.Gather.{gathered_all, gathered_next, gathered_none}
use Rattle.propagation.proofs.PropagationLemmas.Gather.{gathered_nothing, is_copy, same_copy}
use Rattle.root_literals.proofs.RootLemmas.Reasons.{same-in_order, sum_ordered}
use Rattle.{root_literals.specs.Order.in_order, std.proofs.Common.{arith, rules, sym, ◌∙◌}}
use Rattle.watch.proofs.gather.gathered.Goals.{in-Some+in_ok-insert, in_default}
use Rattle.watch.proofs.gather.gathered.Goals as goal

pub loop-number-init : goal.loop-number-init
loop-number-init c =
    let made = c.in_ok-gathered.ensures in
    gathered_none c.args.store.now.live made.live made.slots made.nothing_assumed made.refused

pub loop-number-preserved : goal.loop-number-preserved
loop-number-preserved c = elim c.match-at.branch [
  | in-Some+in_ok-insert w ↦
      let put = w.in_ok-insert.ensures in
      rw w.gathered-is (gathered_next (search rules) put.free put.stored put.others w.insert.ensures.nothing_assumed w.insert.ensures.refused w.insert.ensures.few_slots c.loop-number.invariant)
  | in_default w ↦ rw w.gathered-is (gathered_nothing (search rules) c.loop-number.invariant)
]

pub returns-clause-live : goal.returns-clause-live
returns-clause-live c = let all = gathered_all (grind arith) c.loop-number.invariant in record {
  copies = λ e. all.copies e ∙ sym (sum_ordered (is_copy e) (is_copy e) (λ d. same_copy e (in_order d) d (same-in_order d)) c.args.store.now.live);
}
