-- How the parts of the code fit together. No public contract speaks of it.
pub mod Closure
pub mod Coding
pub mod Exact
pub mod Levels
pub mod Passes
pub mod Scan
