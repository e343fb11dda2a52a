pub mod Memory
pub mod Blocks
pub mod Code
