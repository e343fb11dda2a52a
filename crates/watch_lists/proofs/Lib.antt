pub mod WatchListsLemmas
