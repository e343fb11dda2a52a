-- How the parts of the code fit together. No public contract speaks of it.
pub mod Counts
pub mod Fields
pub mod Kept
pub mod LiteralMarks
pub mod Matches
