-- What was seen of the output.
use Rattle.dimacs.specs.Claim.{IsClaim, claim_at}
use Rattle.{sat_check.proofs.FormulaLemmas.seen_run, std.proofs.Common.rules}
use Rattle.sat_check.proofs.model.claimed.Goals as goal

pub returns-clause-claims : goal.returns-clause-claims
returns-clause-claims g c = let last = c.read_claim-claim.ensures.claim in
    seen_run _ _ _ last.0 _ c.over.ensures (search rules)
    (λ p j. IsClaim c.read_claim-claim.result.0 (claim_at p j)) last.2
