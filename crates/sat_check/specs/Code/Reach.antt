-- The statuses that are a verdict.
use Rattle.std.specs.Prelude.{◌≡◌, ◌⊎◌}
use Rattle.report.specs.declared.status.Status.TheVariants.{Verified, NotVerified}
use Rattle.report.specs.declared.status.Status.{Status}

-- a status that is a verdict on a proof
abbrev pub IsVerdict : Status → Type 0
IsVerdict status = (status ≡ Verified) ⊎ (status ≡ NotVerified)
