use Rattle.{std.proofs.Common.{arith, rules}, watch_lists.proofs.WatchListsLemmas.Entries.two_apart}
use Rattle.watch_lists.proofs.entries.watch_first_two.Goals as goal

pub returns-clause-watched : goal.returns-clause-watched
returns-clause-watched c = search (rules, arith, two_apart)
