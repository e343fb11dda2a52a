-- How the parts of the code fit together. No public contract speaks of it.
pub mod Groups
pub mod Naming
pub mod Ready
pub mod Session
pub mod Walk
