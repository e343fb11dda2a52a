use Rattle.{root_literals.proofs.RootLemmas.Shown.none_shown, std.proofs.Common.{arith, false}}
use Rattle.{theory.specs.Propagation.IsRootReason, watch.proofs.WatchLemmas.State.answer_shown}
use Rattle.watch.proofs.watch.WatchPropagate.is_root_reason.Goals as goal

pub returns-clause-no : goal.returns-clause-no
returns-clause-no c = let live = c.self.inside.store.live in
    let found = c.is_reason_at_root-found in
    answer_shown live _ c.args.slot found.result false (λ m d. ¬ IsRootReason m d) (grind arith) (none_shown live c.args.slot) found.ensures.no
