-- The clauses in the slots that were passed have their entries in the lists of the part.
use Rattle.watch_lists.proofs.WatchListsLemmas.Parts.{IsFilling}
use Rattle.watch_lists.proofs.listing.fill.Given as goal

abbrev pub invariant-loop-number : goal.invariant-loop-number
invariant-loop-number l = IsFilling l.part l.number l.store.live l.fn.lists l.lists
