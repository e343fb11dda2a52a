pub mod Marks
pub mod Calls
pub mod Lines
pub mod Code
