pub mod Hashes
pub mod Index
pub mod Code
