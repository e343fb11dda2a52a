pub mod ByKeyLemmas
pub mod ListsLemmas
