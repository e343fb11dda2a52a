pub mod EntryLemmas
pub mod TestLemmas
