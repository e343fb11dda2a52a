-- How a check ended of which nothing more is known.
use Rattle.std.specs.Prelude.{ℕ, Option, None, false}
use Rattle.report.specs.declared.status.Status.{Status}
use Rattle.sat_check.specs.declared.checked.Checked.{Checked}

-- no step was refused, and no input is malformed; this clause is the first that the model doesn't
-- satisfy, if one is
abbrev pub ended : Status → Option ℕ → Checked
ended status unmet =
    record { status = status; refused = None; literal_lost = false; fault = None; unmet = unmet }
