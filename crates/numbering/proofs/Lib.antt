pub mod NameLemmas
pub mod NumberLemmas
pub mod RecentLemmas
