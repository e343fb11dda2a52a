-- What holds of a result that is known.
use Rattle.std.{proofs.Common.OnOk, proofs.Common.rules, specs.declared.result.Result.Result}

pub when_both : {X Y : Type 0} (r : Result X Y) {P Q R : Type 0} → (P → Q → R) → OnOk r P → OnOk r Q → OnOk r R
when_both r h h2 h3 = search rules
