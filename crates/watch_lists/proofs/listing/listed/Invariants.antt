-- The lists of the parts that were passed have all entries.
use Rattle.watch_lists.proofs.WatchListsLemmas.Parts.{AreFilled}
use Rattle.watch_lists.proofs.listing.listed.Given as goal

abbrev pub invariant-loop-number : goal.invariant-loop-number
invariant-loop-number l = AreFilled l.last l.number l.store.live l.lists
