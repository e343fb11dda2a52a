pub mod Assumptions
pub mod Closure
pub mod Scan
pub mod Slots
pub mod Code
