use Rattle.std.proofs.Common.{sym, ◌∙◌}
use Rattle.watch.proofs.follow.next_found.Goals as goal

pub returns-in-Some-clause-visited : goal.returns-in-Some-clause-visited
returns-in-Some-clause-visited c held reason_of same =
    c.next_found_by.ensures.visited held reason_of (same ∙ sym c.in-Some.ensures)
