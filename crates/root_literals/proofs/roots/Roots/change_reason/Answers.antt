use Rattle.{root_literals.proofs.RootLemmas.Kept.kept_exchange, std.proofs.Common.arith}
use Rattle.root_literals.proofs.roots.Roots.change_reason.Goals as goal

pub returns-in-Some-found-clause-kept : goal.returns-in-Some-found-clause-kept
returns-in-Some-found-clause-kept c =
    kept_exchange {roots = c.args.self.now} {m = c.in-Some.l} {slot = c.in-Some-found.other}
    {before = c.clause-in-Some-found.result.now} (grind arith) c.clause-after.result.now (grind arith)
    c.in-Some-place.place (grind arith) (grind arith) c.exchange.ensures.counted
    c.exchange.ensures.times c.exchange.ensures.stays
