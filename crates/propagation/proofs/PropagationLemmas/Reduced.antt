-- What a set leaves of a clause.
use Rattle.std.proofs.{Common.arith, Common.◌≡◌, Common.false, Common.OnOk, lemmas.Bool.true≢false}
use Rattle.std.specs.{declared.result.Result.Result, Result.is_err}

pub unless_refused : {X E : Type 0} (r : Result X E) {P : Type 0} → is_err r ≡ false → OnOk r P → P
unless_refused r h h2 = grind (arith, true≢false)
