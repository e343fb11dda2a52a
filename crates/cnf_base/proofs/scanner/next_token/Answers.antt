-- A number after a space.
use Rattle.cnf_base.proofs.scanner.next_token.Goals as goal

pub returns-in-Some-clause-tokens : goal.returns-in-Some-clause-tokens
returns-in-Some-clause-tokens g c =
    c.take_number-place.ensures.taken c.in-Some.number c.in-Some.ensures
