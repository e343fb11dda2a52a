-- How the parts of the code fit together. No public contract speaks of it.
pub mod Entry
pub mod Lists
pub mod Part
pub mod SlotList
