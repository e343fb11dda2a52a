use Rattle.{propagation.proofs.PropagationLemmas.Closing.added_followed, std.proofs.Common.Some}
use Rattle.std.proofs.Common.{arith, rules, ◌≡◌}
use Rattle.propagation.proofs.closure.Closure.enter_kept.Goals as goal

pub follow-requires : goal.follow-requires
follow-requires g c =
    let is : c.args.self.now ≡ Some c.in-Some.found = search rules in grind (arith, added_followed)
