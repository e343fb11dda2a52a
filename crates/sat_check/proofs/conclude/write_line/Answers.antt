use Rattle.{sat_check.proofs.OutcomeLemmas.Outcome-broken, std.proofs.Common.{rules, ◌≡◌}}
use Rattle.sat_check.proofs.conclude.write_line.Goals as goal

pub returns-then-is_err-clause-stopped : goal.returns-then-is_err-clause-stopped
returns-then-is_err-clause-stopped g c = λ text r is.
    let bytes : c.bytes.result.now ≡ text = search rules in
    Outcome-broken _ _ text r.lines r.status (rw bytes at c.line-2.ensures.writes)
