pub mod Bytes
pub mod Hints
pub mod Kinds
