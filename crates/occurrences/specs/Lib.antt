pub mod Entries
pub mod Occurrences
pub mod Code
