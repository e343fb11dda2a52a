pub mod Names
pub mod Code
