-- After a space.
use Rattle.std.proofs.Common.{◌≡◌, ◌≤◌, arith, rules, length, slice_index}
use Rattle.cnf_base.proofs.RunLemmas.{IsNumberAhead-spaced}
use Rattle.cnf_base.proofs.scanner.number_ahead.Goals as goal

pub returns : goal.returns
returns g c =
    let s = c.args.source.now in
    let enough : 2 ≤ length s.ahead =
    rw (← c.ahead-ahead.ensures) (omega (arith, c.if-ahead.false)) in
    let space : slice_index s.ahead 0 ≡ 32 = search rules in
    let whole = rw c.ahead-ahead.ensures at c.in_ok-count.ensures in
    IsNumberAhead-spaced s c.in_ok-count.count c.in_ok-count.number enough space whole
